pub mod Branches
pub mod Paths
pub mod Standing
pub mod Taking
