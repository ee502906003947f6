pub mod Amounts
pub mod Rests
