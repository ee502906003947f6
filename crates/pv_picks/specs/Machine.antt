-- The machine: threads that step in any interleaving, starts, safe programs, and agreement on counted loops.
pub mod Tasks
pub mod Measures
pub mod Frames
pub mod Labels
pub mod Worlds
pub mod Steps
pub mod Starts
pub mod Safety
pub mod LoopRuns
