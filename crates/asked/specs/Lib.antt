-- Words of digits, and what two words ask for.
pub mod Digits
pub mod Asked
