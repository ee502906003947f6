pub mod Naming
pub mod Picking
pub mod Counting
pub mod Opening
pub mod Beginning
pub mod Opened
pub mod Keeping
