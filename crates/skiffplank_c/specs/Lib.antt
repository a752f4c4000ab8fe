-- What callers from C and Rust are told, as words.
pub mod Answers
