pub mod Drained
pub mod Wanted
