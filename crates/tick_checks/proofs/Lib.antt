pub mod Early
pub mod Entries
pub mod Folds
pub mod Parts
pub mod Whole
