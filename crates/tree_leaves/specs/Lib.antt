pub mod Chain
pub mod Leaf
