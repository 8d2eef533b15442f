-- Decide: the early results or a new execution. FoundAt: the transaction found and the decision on it, before anything is written.
pub mod Decide
pub mod FoundAt
