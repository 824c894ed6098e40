pub mod Excludes
