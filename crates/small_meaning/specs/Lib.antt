pub mod Sorts
pub mod Values
pub mod Running
pub mod Machine
pub mod Grounds
pub mod Rules
pub mod Small
