pub mod Close
pub mod Settled
