-- 01's number and line of what was told.
pub mod Refusals
