-- Runs by computing; then the laws behind the runs, in the order in which they build on each other: the tally, the rounds of the run to the end, where
-- a run stands from turn to turn, what it leaves, that a run to the end answers; what the three demands say of the runs, and that their contracts
-- settle the calls.
pub mod Cases
pub mod Tallied
pub mod Rounds
pub mod Along
pub mod Whole
pub mod Runs
pub mod Promises
pub mod Settled
