pub mod Sorted
pub mod Over
