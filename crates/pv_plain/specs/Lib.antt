pub mod Sights
pub mod Held
pub mod Operators
pub mod Clauses
pub mod Olds
pub mod Sites
