-- Well typed heaps, plain trees, frames and worlds.
pub mod Heaps
pub mod Expressions
pub mod Blocks
pub mod Tasks
pub mod Frames
pub mod Worlds
