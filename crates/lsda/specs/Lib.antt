pub mod Turns
pub mod Header
pub mod Site
pub mod Chain
pub mod Verdict
pub mod Forced
