pub mod Parts
pub mod Keeping
pub mod Standing
pub mod Meaning
pub mod Searching
pub mod Runs
