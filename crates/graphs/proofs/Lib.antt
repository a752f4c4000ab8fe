-- Laws of the definitions in specs/, a file for each word, in the order in which they build on each other.
pub mod Tests
pub mod Change
pub mod Member
pub mod Every
pub mod Bridge
pub mod Sum
pub mod Tab
pub mod Same
pub mod Once
pub mod Walk
pub mod Lasso
pub mod Order
pub mod Words
pub mod Stamps
pub mod Cases
pub mod Settled
