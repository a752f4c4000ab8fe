-- The verdict after a turn, and that the contract settles the call.
pub mod Answered
pub mod Settled
