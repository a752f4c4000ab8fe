-- State-list text, in the order of reading: what a text means, the four lists and the answer that a reading gives, and the labels in them.
pub mod Text
pub mod Lists
pub mod Labels
