pub mod Refusals
pub mod Meaning
pub mod Bits
pub mod Calls
