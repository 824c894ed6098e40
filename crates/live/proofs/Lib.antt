pub mod Keeps
pub mod Numbers
pub mod Scores
pub mod Passed
pub mod Thresholds
