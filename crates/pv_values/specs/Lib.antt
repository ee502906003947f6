pub mod Changes
pub mod Heaps
pub mod Sames
pub mod Typing
