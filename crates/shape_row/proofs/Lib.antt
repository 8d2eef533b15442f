-- RunTests: each test of a run that has begun, where it fails.
pub mod RunTests
