-- The refusals at work, what it means that none is given, and that two results of `check` are the same.
pub mod Cases
pub mod Refused
pub mod Settled
