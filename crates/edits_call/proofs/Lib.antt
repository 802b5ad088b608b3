mod Checks
mod EditsCalled
