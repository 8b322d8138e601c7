mod Rows
mod Rows5
mod Rows15
pub mod Back
pub mod Range
pub mod Places
pub mod Entries
pub mod Decisions
pub mod Reach
pub mod Keeps
pub mod Reached
pub mod Solved
pub mod Lubys
pub mod Ordered
pub mod SameSets
pub mod Marks
pub mod Conflicts
pub mod Collected
pub mod Cutting
pub mod Arrays
pub mod Cases
pub mod Lessons
pub mod Hints
pub mod Counted
pub mod Runs
pub mod Raising
pub mod Steps
pub mod Held
