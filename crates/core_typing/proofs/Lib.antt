mod Types
mod Scopes
mod Places
mod Expressions
mod Uses
mod Within
mod Outside
mod Barriers
mod Parts
mod Declared
mod Made
mod Joined
mod Formulas
mod Clauses
mod Locals
mod Assigning
mod Once
mod Standing
mod Messages
mod Targets
mod Statements
mod Members
pub mod Programs
mod Presently
pub mod Contracts
pub mod Distinct
pub mod Throughout
