pub mod Builds
pub mod Reading
