-- What one read adds to the bytes before it.
pub mod Steps
