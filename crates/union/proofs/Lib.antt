pub mod Ghosts
pub mod Turns
