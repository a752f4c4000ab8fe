-- Bytes and lines, in the order of reading: the kinds of bytes, labels and lines, and what the code makes of a label and a line.
pub mod Bytes
pub mod Line
pub mod Found
pub mod Scan
