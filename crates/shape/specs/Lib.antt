-- AreaScan: the check as the code goes, in one pass. ScanIsShape: it is the shape check of the definitions. LentRows: what contracts say. The others:
-- laws.
pub mod AreaScan
pub mod LentRows
pub mod RowLoop
pub mod RowsWalk
pub mod PendingParts
pub mod Leaves
pub mod Stores
pub mod Runs
pub mod Table
pub mod Objects
pub mod ScanIsShape
