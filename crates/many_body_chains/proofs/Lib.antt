pub mod Chains
pub mod Strengths
