pub mod Sites
pub mod Chains
pub mod Worked
