pub mod Picking
pub mod Meanings
pub mod Wiring
pub mod Numbers
pub mod Vectoring
