pub mod LinkCalled
