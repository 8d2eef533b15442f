-- The definitions and laws of the pending transactions, lowest first: where a transaction stands, what each call answers and leaves.
pub mod Place
pub mod Found
pub mod Shown
