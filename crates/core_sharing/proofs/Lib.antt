pub mod Evaluating
mod Shifting
mod Parts
mod Both
mod Contracts
mod Statements
pub mod Programs
mod Keeping
pub mod Agreeing
mod Following
mod Giving
mod OnePosition
mod GuardsAtPosition
mod AtPosition
mod Coming
mod Exhaled
mod Places
pub mod Ways
mod Failing
mod Alike
pub mod Waiting
mod Looking
mod Meets
mod Ahead
mod Gains
mod Ranges
mod OneElement
mod Inhaling
mod OneFact
mod InhalingAtPosition
mod Inhaled
mod Making
