pub mod Blocks
pub mod Probing
