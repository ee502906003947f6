pub mod Partial
pub mod NamedLemmas
