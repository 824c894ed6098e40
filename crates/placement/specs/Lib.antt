pub mod Lessons
pub mod Slips
