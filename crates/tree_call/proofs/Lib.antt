pub mod TreeChecks
pub mod TreeCalled
