-- The committed state: its values as a list, and where its stamps and bounds stand.
pub mod Committed
