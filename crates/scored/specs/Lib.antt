pub mod Rescored
pub mod Boosts
pub mod Optional
