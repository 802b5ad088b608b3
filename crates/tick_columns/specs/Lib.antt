pub mod Stage
pub mod Columns
