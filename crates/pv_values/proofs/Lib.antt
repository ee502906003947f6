pub mod Comparisons
pub mod Keeping
pub mod Standing
pub mod Writes
