pub mod Dividing
pub mod Zeros
pub mod Signing
