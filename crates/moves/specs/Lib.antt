-- The machine of 01, in the order of reading: a worker's place, the machine, what moves change, the moves 1 to 7, the tally, a run, the form
-- of the room, its parts, and a worker's place and depths in it.
pub mod Place
pub mod Machine
pub mod Changes
pub mod Moves
pub mod Tally
pub mod Run
pub mod Room
pub mod Words
pub mod Own
