pub mod Best
pub mod Heaps
pub mod Ranks
pub mod Scores
pub mod Orders
pub mod HitOrder
