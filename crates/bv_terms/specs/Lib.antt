pub mod Widths
pub mod Building
pub mod Sorting
pub mod Entries
pub mod Goals
