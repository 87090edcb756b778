pub mod Messages
pub mod Numbers
pub mod Words
