-- Units of a program, what each verdict on a unit says, and what is to be proved of verdicts.
pub mod Grounds
pub mod Units
pub mod Theorems
