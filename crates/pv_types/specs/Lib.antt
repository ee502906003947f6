pub mod Environments
pub mod Bounds
pub mod Walks
pub mod Sets
pub mod TypeFaults
pub mod Growth
pub mod Index
pub mod Sites
