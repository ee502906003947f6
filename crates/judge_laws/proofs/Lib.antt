pub mod Taking
mod Formulas
pub mod Statements
mod DirectForm
mod TrueTables
mod Falling
pub mod Sources
pub mod Drawing
pub mod OneGo
pub mod Parts
pub mod Backing
pub mod Lookups
pub mod Judging
mod Together
mod Picking
pub mod Numbers
pub mod Remembering
pub mod Making
pub mod Ending
