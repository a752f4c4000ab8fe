-- Who makes each turn, and refusals 9 to 13.
pub mod Plans
pub mod Refusals
