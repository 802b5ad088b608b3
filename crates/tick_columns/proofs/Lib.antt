pub mod Flags
pub mod Staged
mod ByColumns
pub mod Begun
