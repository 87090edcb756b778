pub mod Listed
pub mod Said
