pub mod Text
pub mod Faults
pub mod Statements
pub mod Cards
