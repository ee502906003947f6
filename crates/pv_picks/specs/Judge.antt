-- The judge: the run of one unit against contracts alone, with permissions.
pub mod States
pub mod Settings
pub mod Permissions
pub mod Repetitions
pub mod Steady
pub mod Inhaling
pub mod Exhaling
pub mod Rows
pub mod Judging
pub mod UnitRuns
pub mod Runs
