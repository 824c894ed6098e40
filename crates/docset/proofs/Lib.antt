pub mod Lists
pub mod Walking
pub mod Probes
