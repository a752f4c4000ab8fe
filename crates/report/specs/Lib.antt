-- What is printed of a run, and what printing it asks.
pub mod Report
pub mod Shows
