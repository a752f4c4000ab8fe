-- Laws of what is printed of states and workers; and lines by computing.
pub mod Labelled
pub mod Below
pub mod Cases
