mod Unique
pub mod Few
