-- The way from the tree of a program to its plain tree: one step a node, over what its parts became.
pub mod Names
pub mod Operations
pub mod Expressions
pub mod Statements
pub mod Programs
