-- NameScan: the check as the code goes. NameTests: laws.
pub mod NameScan
pub mod NameTests
