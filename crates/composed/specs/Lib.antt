pub mod Tree
pub mod Leaf
pub mod Forced
