pub mod Seats
pub mod Plays
pub mod Searches
pub mod Answers
pub mod Building
