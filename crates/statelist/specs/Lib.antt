-- The reader's answer in the words of `text`; then `Loops` and `Build`, which are for the private functions.
pub mod Told
pub mod Loops
pub mod Build
