pub mod Draws
pub mod Ran
