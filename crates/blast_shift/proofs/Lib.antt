pub mod Cuts
pub mod Standing
pub mod Amounts
pub mod Values
pub mod Staging
pub mod Moves
pub mod Shifting
