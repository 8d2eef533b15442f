-- RowScan: the check as the code goes. LentRow: what contracts say. RowTests: laws.
pub mod RowScan
pub mod LentRow
pub mod RowTests
