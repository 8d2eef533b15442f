-- Commit: the commit on both areas, step by step. Deliver: the whole call, from what its tests say.
pub mod Commit
pub mod Deliver
