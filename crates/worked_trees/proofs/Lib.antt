mod Nodes
mod Rules
pub mod Objects
mod Arrays
mod Threads
pub mod Witnesses
