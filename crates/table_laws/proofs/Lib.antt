pub mod Chains
pub mod Sites
pub mod Numbered
pub mod Leaves
