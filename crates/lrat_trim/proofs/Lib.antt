pub mod Flats
pub mod Pushed
pub mod Marking
pub mod Marked
pub mod Positions
pub mod Derived
pub mod Reached
pub mod Writing
