pub mod Ranges
pub mod Lists
pub mod Bits
