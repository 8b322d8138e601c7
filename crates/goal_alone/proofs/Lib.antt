pub mod Ended
pub mod Counting
pub mod Asking
mod Once
pub mod Satisfied
mod Rows
pub mod Turns
pub mod Numbers
pub mod Sifting
pub mod Texts
pub mod Ending
pub mod Telling
pub mod Example
