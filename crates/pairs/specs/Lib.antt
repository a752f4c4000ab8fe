-- Numbered pairs of words, and chains through them.
pub mod Pairs
