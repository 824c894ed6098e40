pub mod Laws
pub mod Tracks
pub mod Steps
