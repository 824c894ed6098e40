pub mod Entries
pub mod Stands
pub mod State
