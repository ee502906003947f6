pub mod Results
pub mod Quiet
pub mod Effects
pub mod Able
pub mod Swaps
pub mod Stages
pub mod Sorting
pub mod Following
pub mod Opening
pub mod Agreeing
pub mod Calm
pub mod Whole
pub mod Programs
mod Statements
