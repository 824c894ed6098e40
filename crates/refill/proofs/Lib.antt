pub mod Pours
pub mod States
pub mod Lengths
pub mod Moves
pub mod Seeks
pub mod Reaches
pub mod Drains
