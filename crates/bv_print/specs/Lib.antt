pub mod Values
pub mod Spelling
pub mod Canonical
pub mod Pieces
