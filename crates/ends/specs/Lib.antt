-- What a run comes to, in the order of reading: what it tells and shows, and the lasso read from the stacks.
pub mod Told
pub mod Lasso
