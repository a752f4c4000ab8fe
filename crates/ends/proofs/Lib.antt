-- The laws behind what a run comes to: copying, looking for a word from the last down, the two stacks in the lasso room, that their words are
-- stem and loop; that the starting state is all 0, and that what is told tells the outcome.
pub mod Copied
pub mod Down
pub mod Stacked
pub mod Shown
pub mod Fresh
pub mod Numbered
