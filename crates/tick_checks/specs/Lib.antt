pub mod Fits
pub mod Input
pub mod Parts
