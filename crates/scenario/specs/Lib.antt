pub mod Statements
pub mod Scripts
pub mod Answers
pub mod Reports
