pub mod Literals
pub mod Codes
pub mod Assignment
pub mod Truth
pub mod Shape
pub mod Log
pub mod Dimacs
pub mod Flat
