-- The static rules and shapes of programs.
pub mod Faults
pub mod Lookup
pub mod Scoping
pub mod Typing
pub mod Expressions
pub mod Statements
pub mod Programs
pub mod Items
pub mod Shapes
pub mod Numbers
pub mod WellFormed
