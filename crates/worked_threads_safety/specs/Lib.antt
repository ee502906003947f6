pub mod Verified
pub mod Runs
pub mod Wrong
