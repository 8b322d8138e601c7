pub mod Allowed
pub mod Knowing
pub mod Searched
pub mod Conjoining
pub mod Gating
