pub mod Operators
pub mod Grammar
pub mod Derivation
pub mod Taking
pub mod Laws
pub mod Moves
