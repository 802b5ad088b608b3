pub mod Accepted
pub mod Keeping
pub mod Stepping
