pub mod Judged
pub mod Values
pub mod Marked
pub mod Scanned
pub mod Taken
pub mod Assumed
pub mod Named
