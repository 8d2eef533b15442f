-- Keys: definitions. Early: the keys before instead of those behind. Marked: the loop over the keys.
pub mod Keys
pub mod Early
pub mod Marked
