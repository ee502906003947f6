pub mod Output
pub mod Positions
pub mod Faults
