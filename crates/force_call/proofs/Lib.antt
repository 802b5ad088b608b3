pub mod Called
pub mod Ranged
