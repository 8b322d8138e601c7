pub mod Splitting
pub mod Stepping
pub mod Answering
pub mod Concluding
pub mod Taking
pub mod Proving
pub mod Stopping
