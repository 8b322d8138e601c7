pub mod Renewing
pub mod Ending
pub mod Claiming
pub mod Cutting
pub mod Allowed
pub mod Answering
