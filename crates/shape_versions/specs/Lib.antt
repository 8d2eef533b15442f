-- Lowest: the smallest open reader's cell. ClosedReaders: closed readers are as none. Halves: the objects in two parts.
pub mod Lowest
pub mod ClosedReaders
pub mod Halves
