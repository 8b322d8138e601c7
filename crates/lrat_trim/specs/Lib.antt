pub mod Trim
pub mod Derivation
pub mod Flat
pub mod Marks
pub mod Derived
pub mod Passing
