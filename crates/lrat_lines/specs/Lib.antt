pub mod Lines
pub mod Judge
pub mod Replay
pub mod Seen
pub mod Memory
pub mod Sign
pub mod Spaced
pub mod Laws
