pub mod Parts
pub mod Asking
