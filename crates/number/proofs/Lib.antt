-- for proofs of other crates
pub mod Order
pub mod Integers
pub mod Flooring
pub mod Tests
-- for the proofs here
mod Cut
