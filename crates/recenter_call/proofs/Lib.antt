pub mod Theorems
mod Alpha
mod Digits
mod Inputs
mod Runs
