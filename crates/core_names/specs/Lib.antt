pub mod Carrying
pub mod Assigning
pub mod Fixed
pub mod Present
pub mod Closing
pub mod Stacks
