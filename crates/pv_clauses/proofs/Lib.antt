pub mod Clauses
pub mod Contracts
pub mod Exactness
