pub mod Digits
pub mod Fronts
pub mod Operations
pub mod Example
