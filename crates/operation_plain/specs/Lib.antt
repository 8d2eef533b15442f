-- Plain: what a right answer is, and a turn of the loop over the plain kinds.
pub mod Plain
