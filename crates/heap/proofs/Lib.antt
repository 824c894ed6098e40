pub mod Orders
pub mod Sifts
pub mod Parts
pub mod Shuffles
pub mod Placed
pub mod Kept
pub mod Totals
