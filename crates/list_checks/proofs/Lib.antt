pub mod Scans
pub mod Checks
