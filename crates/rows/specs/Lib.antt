-- RowRun: what a row's cells say of its run. Loading, Storing: laws that the proofs of the code and its callers cite.
pub mod RowRun
pub mod Loading
pub mod Storing
