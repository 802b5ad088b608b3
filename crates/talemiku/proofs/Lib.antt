pub mod Agree
pub mod EditTheorems
pub mod RecordTheorems
pub mod Theorems
pub mod Unique
mod Accepted
mod EditSteps
mod Inserts
mod Laid
mod Lapses
mod Outcomes
mod Outlines
mod Passes
mod Recorded
mod Trees
mod Undone
mod Visits
mod Widens
