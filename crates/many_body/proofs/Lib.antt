pub mod ManyBodyWalk
pub mod ManyBodyRun
pub mod OwnLeaf
pub mod Facts
