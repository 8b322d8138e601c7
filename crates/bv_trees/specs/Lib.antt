pub mod Trees
pub mod Terms
pub mod Files
pub mod Laws
pub mod Codes
pub mod Building
pub mod Complete
