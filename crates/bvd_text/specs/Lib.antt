pub mod Places
pub mod Text
pub mod Stands
pub mod Numbers
pub mod Hexadecimal
