pub mod Texts
pub mod Refusals
pub mod Statuses
pub mod Lines
pub mod Answers
pub mod Loading
