pub mod Scores
pub mod Cells
pub mod Estimate
