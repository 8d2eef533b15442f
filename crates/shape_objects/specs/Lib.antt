-- ObjectScan: the check as the code goes. LentRecord: what contracts say. The others: laws.
pub mod ObjectScan
pub mod LentRecord
pub mod HeaderLoop
pub mod HeaderParts
