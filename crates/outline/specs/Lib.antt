pub mod Unwrap
