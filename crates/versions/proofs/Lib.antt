pub mod AllBlocks
pub mod BlockLoops
pub mod OnePass
pub mod Round
