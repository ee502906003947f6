pub mod Parts
pub mod Values
pub mod Uses
pub mod States
pub mod Runs
