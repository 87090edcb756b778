pub mod Reading
pub mod Digits
pub mod Numbers
pub mod Formats
pub mod Laws
