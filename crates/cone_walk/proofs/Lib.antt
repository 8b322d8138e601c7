pub mod Trees
pub mod Numberings
pub mod Steps
pub mod Asking
