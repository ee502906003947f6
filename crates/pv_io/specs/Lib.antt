pub mod Count
pub mod Calls
pub mod Whole
pub mod Named
pub mod Memory
