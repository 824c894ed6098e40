pub mod Probing
pub mod Rows
