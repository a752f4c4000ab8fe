-- Laws of the definitions in specs/, in the order in which they build on each other; at the end, that the contracts settle the calls.
pub mod Table
pub mod Bytes
pub mod Run
pub mod Part
pub mod Labels
pub mod Cut
pub mod Pieces
pub mod Lines
pub mod Records
pub mod Words
pub mod Found
pub mod Settled
