-- Laws of the answers: what is told fits them, that a run to the end is decided, and that the contracts settle the calls.
pub mod Told
pub mod Decided
pub mod Settled
