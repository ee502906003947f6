pub mod Symbolic
pub mod Sorted
pub mod Ends
pub mod Grounded
pub mod Searching
pub mod Units
