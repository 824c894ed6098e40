pub mod Combined
pub mod Bounded
pub mod Cells
