pub mod Asking
pub mod Decisions
pub mod Evidence
pub mod Keeping
pub mod Literal
pub mod Sorting
pub mod Sorts
pub mod Values
