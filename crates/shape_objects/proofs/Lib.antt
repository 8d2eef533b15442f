-- PartTests: tests of the header and of the number of objects, where they fail.
pub mod PartTests
