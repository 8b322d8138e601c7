pub mod Adding
pub mod Comparing
