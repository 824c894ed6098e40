pub mod Bounds
pub mod Sketches
pub mod Texts
pub mod Trips
pub mod Folds
