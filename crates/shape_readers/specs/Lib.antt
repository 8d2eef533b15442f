-- OpenReaders: what the contracts on the sorted readers say, and the laws of it.
pub mod OpenReaders
