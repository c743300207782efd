pub mod Ids
pub mod InTurn
pub mod Limits
pub mod Nodes
