pub mod Safely
pub mod Folds
pub mod Trees
pub mod Pieces
pub mod Forming
