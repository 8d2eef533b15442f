-- Advance: one transaction's turn, on its row. AreaRow: the row as a part of the record area.
pub mod Advance
pub mod AreaRow
