-- Laws of words of digits and of `==`; what some words ask for, and where its turns stand; and that the contract of `ask` settles the call.
pub mod Numbers
pub mod Spelt
pub mod Cases
pub mod Within
pub mod Settled
