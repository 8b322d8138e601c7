pub mod Numbers
pub mod Words
pub mod Lists
pub mod Cases
pub mod Spelling
pub mod Readings
pub mod Sound
pub mod Refutes
pub mod Verdicts
pub mod Appending
mod Rows
