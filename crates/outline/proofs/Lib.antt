mod Closing
pub mod OutlineCalled
mod Steps
mod Turns
