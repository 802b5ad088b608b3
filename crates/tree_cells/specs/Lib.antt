pub mod Cover
pub mod Indexer
