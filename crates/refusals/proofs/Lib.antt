-- Laws of the numbers, and that the contracts settle the calls.
pub mod Numbers
pub mod Settled
