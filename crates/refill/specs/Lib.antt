pub mod Refills
pub mod State
