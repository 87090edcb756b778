pub mod Says
pub mod Verdicts
