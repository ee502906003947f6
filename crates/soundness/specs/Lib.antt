pub mod Soundness
pub mod OpeningLaws
pub mod Sharing
pub mod WorldLaws
pub mod Waiting
