-- In the order of reading: what a run has come to after a move, and what a turn asks and promises.
pub mod Verdict
pub mod Steps
