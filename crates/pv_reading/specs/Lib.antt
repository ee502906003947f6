pub mod Answers
pub mod Given
pub mod Marks
pub mod Reading
pub mod Spelled
