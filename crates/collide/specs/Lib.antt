pub mod Radius
pub mod Collide
