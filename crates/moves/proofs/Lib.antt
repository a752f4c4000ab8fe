-- The cases of 01; that the contracts settle the calls; the numbers from n on; and the laws of the room, in the order in which they build on each other.
pub mod Cases
pub mod Settled
pub mod UpFrom
pub mod Joined
pub mod Bits
pub mod Pile
pub mod Room
pub mod Stretch
pub mod Parts
pub mod Words
pub mod Owned
pub mod Stores
