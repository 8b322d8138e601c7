pub mod Entries
pub mod Given
pub mod Marking
pub mod Hinted
pub mod Assuming
pub mod Uncovered
pub mod Judging
