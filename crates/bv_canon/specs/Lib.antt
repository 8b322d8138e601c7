pub mod Written
pub mod Names
pub mod Lines
pub mod Reading
pub mod Laws
