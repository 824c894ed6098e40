pub mod Rescored
pub mod Same
pub mod Marked
pub mod Optionals
