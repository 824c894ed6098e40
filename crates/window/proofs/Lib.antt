pub mod Bits
pub mod Slots
pub mod Held
pub mod Draining
