pub mod Holds
pub mod Pieces
pub mod Sets
pub mod Numbers
mod Coded
