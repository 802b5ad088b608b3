pub mod RadiusLaws
pub mod CollideSteps
pub mod CollideRun
pub mod Facts
