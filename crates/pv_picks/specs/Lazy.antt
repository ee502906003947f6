-- Lazy runs: what a run shows of its evidence, and which facts it tests.
pub mod Parts
pub mod Patterns
pub mod Runs
