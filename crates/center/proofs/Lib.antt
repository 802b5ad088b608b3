pub mod Centring
