-- Laws of the definitions in specs/: the last number that passes a test, and chains; and that the contracts settle the calls.
pub mod Last
pub mod Chain
pub mod Settled
