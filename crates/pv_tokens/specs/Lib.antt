pub mod Bytes
pub mod Words
pub mod Pieces
pub mod Reading
pub mod Progress
pub mod Lexemes
pub mod Faults
