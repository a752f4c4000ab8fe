-- Laws of writing into a page, of digits, and how long lines are; and that the contracts settle the calls.
pub mod Written
pub mod Decimal
pub mod Long
pub mod Settled
