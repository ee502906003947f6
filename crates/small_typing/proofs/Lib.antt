pub mod Clean
pub mod Naming
pub mod Agreeing
pub mod Expressions
pub mod Statements
pub mod Bodies
pub mod Methods
pub mod Programs
