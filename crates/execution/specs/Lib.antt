-- Entries, Bounds, Run: a run of a body on a table. ReadAgreement, Counting, OtherStamps, RunShape, BoundsLaws, Ended: its laws. Arrays, Listed,
-- LentTable, TableLaws: a run, and a table beside it, as the code has them. RunExamples: computed.
pub mod Entries
pub mod Bounds
pub mod Run
pub mod RunShape
pub mod Arrays
pub mod LentTable
