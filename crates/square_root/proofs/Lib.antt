pub mod NoTie
mod Powers
mod Rounding
mod Patterns
