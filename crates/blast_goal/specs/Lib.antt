pub mod Circuit
pub mod Values
pub mod Fitting
pub mod Falsified
pub mod Script
pub mod Recorded
