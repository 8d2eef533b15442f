pub mod Opening
pub mod Inside
pub mod Counts
