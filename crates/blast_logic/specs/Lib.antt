pub mod Chosen
pub mod Truths
pub mod Words
pub mod Vectors
pub mod Connectives
