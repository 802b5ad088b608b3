mod ListChain
pub mod ListRows
mod ListTree
pub mod ListWhole
