pub mod Slots
pub mod Windows
