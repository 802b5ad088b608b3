mod Levels
pub mod AddWrap
pub mod AddInsert
pub mod AddBuild
pub mod Refusals
pub mod Told
