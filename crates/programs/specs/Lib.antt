-- What the programs print for a text.
pub mod Given
pub mod Skiffplank
pub mod Replay
