pub mod Recentered
pub mod Ticks
