pub mod OneField
pub mod TwoWriters
pub mod Overwriting
pub mod Refused
pub mod Classes
pub mod Fitting
pub mod Runs
