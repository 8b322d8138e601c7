pub mod Bits
pub mod BitVector
pub mod Operations
pub mod Signs
