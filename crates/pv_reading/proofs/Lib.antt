pub mod Calls
pub mod Exact
pub mod Loops
pub mod Nexts
pub mod Sights
pub mod Steps
pub mod Turns
pub mod Whole
