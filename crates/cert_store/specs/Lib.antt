pub mod CutShort
pub mod Refused
