-- Plain trees of programs, in which names, types and operators are settled.
pub mod Core
pub mod Members
pub mod Trees
