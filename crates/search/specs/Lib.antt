-- The two runs over lent words, in the order of reading: what a run leaves, and the run by a plan.
pub mod Outcomes
pub mod Plans
