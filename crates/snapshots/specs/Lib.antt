-- ClosePruning: what the contracts say. ReaderBlocks: the objects as `versions_close` prunes them. ReaderAnswers: each way out of each call.
pub mod ClosePruning
pub mod ReaderBlocks
pub mod ReaderAnswers
