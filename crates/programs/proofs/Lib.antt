-- How long lines are, that what was told can be printed, and what a reading gives; what the pages say of the graph of a text; and that the contracts
-- settle the calls.
pub mod Lines
pub mod Shown
pub mod Pages
pub mod Reading
pub mod Answers
pub mod Searched
pub mod Replayed
pub mod Cases
pub mod Settled
