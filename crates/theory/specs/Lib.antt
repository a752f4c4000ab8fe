-- In the order of reading: the moves as a relation, what concerns the stacks, the invariant, turn lists and answers in the demands' words, and the
-- moves that are left.
pub mod Rules
pub mod Stacks
pub mod Invariant
pub mod Turns
pub mod Cost
