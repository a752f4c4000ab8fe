-- The laws behind a turn, in the order in which they build on each other: what is read of a row, the waiting test, that a rule that goes is the turn,
-- the places of a row, what is known where a turn is made, the room cut and joined again; that what each move stores makes the stretch of the changed
-- worker, that the move which the words give is the machine's, and that what making it writes is the machine after it; and what the contracts say, of a
-- move's stretch, rule by rule, and that they settle the call.
pub mod Next
pub mod Others
pub mod Rules
pub mod Rows
pub mod Rotated
pub mod Given
pub mod Cut
pub mod Put
pub mod Form
pub mod Stored
pub mod Joined
pub mod Chosen
pub mod Making
pub mod Turned
pub mod Made
pub mod Settled
