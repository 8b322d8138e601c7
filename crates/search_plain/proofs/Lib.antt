pub mod Units
pub mod Numbered
pub mod Ranges
