pub mod Tallies
pub mod Linked
pub mod EndsRange
