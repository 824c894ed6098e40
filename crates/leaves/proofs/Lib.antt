pub mod Leaves
pub mod Checks
pub mod Ranges
pub mod Alls
pub mod Words
pub mod BitSets
