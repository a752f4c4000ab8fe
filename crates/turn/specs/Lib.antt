-- One turn on the room, in the order of reading: when the parts of a stretch are a worker's, what each move stores in them, what is lent to a turn,
-- the move that the words give and what making it writes, and what a turn promises.
pub mod Holds
pub mod Stores
pub mod Others
pub mod Lent
pub mod Successor
pub mod Look
pub mod Made
pub mod Turn
