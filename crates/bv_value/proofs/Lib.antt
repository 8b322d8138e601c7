pub mod Powers
pub mod Bits
pub mod Signs
pub mod Rows
pub mod Results
pub mod Magnitudes
