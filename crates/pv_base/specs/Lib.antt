pub mod Names
pub mod Place
