pub mod Standing
pub mod Supports
pub mod Statements
