pub mod Ends
pub mod Formula
pub mod Satisfying
pub mod Unasked
pub mod Alone
pub mod Told
pub mod Ended
pub mod Inputs
