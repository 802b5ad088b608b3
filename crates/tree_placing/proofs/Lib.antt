pub mod SlotsTree
pub mod Roots
pub mod AddWay
pub mod AddSplit
pub mod AddChain
pub mod AddHold
pub mod AddTurns
pub mod AddPlaced
