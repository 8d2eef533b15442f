-- Admission: the tests of a final delivery. NextTimestamp: the timestamp that it takes.
pub mod Admission
pub mod NextTimestamp
