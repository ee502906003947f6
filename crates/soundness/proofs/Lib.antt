mod Steps
pub mod Runs
pub mod Verifying
pub mod StayAlike
pub mod Bodies
pub mod Carried
pub mod Forms
pub mod Leaving
pub mod OpeningsStand
pub mod ProgramsShare
pub mod Standing
pub mod Working
