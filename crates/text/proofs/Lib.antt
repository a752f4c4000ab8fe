-- The cases of 01; laws of what a text means and of the four lists; then what follows for a text that is read, its labels, and what is told.
pub mod Cases
pub mod Nil
pub mod Zeros
pub mod Targets
pub mod Good
pub mod Meaning
pub mod Filled
pub mod Labels
pub mod Told
