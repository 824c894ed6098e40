pub mod Chained
pub mod Sums
pub mod Tops
pub mod Groups
pub mod States
pub mod Built
