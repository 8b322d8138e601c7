pub mod Numbers
pub mod Laws
pub mod Equality
pub mod Sorting
pub mod Keeping
pub mod Operators
pub mod Knowing
pub mod SafeOperands
pub mod SafeComparisons
pub mod SafeShifts
pub mod SafeQuotients
pub mod SafeChoices
pub mod SafeFolding
pub mod Normalising
pub mod Finding
pub mod Making
pub mod Goaling
mod Examples
