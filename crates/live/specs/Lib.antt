pub mod Sets
pub mod Lists
pub mod Kept
pub mod Views
