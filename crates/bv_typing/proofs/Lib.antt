pub mod Least
pub mod ByParts
pub mod Judged
pub mod Placing
pub mod InGoals
pub mod Spelling
