pub mod Finite
pub mod Fair
pub mod Shapes
pub mod Carried
pub mod Reads
pub mod Without
