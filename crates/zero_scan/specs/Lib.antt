-- Totals: zeros by sums, and a turn of each scan.
pub mod Totals
