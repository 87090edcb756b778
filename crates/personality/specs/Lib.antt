pub mod Faults
pub mod Verdicts
pub mod Layers
pub mod Texts
