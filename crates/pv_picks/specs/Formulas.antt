-- Heaps, values, and when a formula is met in a heap.
pub mod Heaps
pub mod Values
pub mod Evaluation
pub mod Meeting
