pub mod Walk
pub mod WalkAfter
pub mod Path
