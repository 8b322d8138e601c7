pub mod Wires
pub mod Stages
pub mod Ways
