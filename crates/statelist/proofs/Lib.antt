-- That the contract of `read` settles the call, and what it promises; then laws of the loops that read a text and build the lists.
pub mod Settled
pub mod Promises
pub mod Here
pub mod Labelled
pub mod Declared
pub mod Counts
pub mod Listed
pub mod Summing
pub mod Placing
pub mod Ends
