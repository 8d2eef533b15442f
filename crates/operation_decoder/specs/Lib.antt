-- Tail: zeros by units of an operation.
pub mod Tail
