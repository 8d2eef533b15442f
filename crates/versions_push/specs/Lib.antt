-- Trimmed: definitions. Moving: a turn of the loop that keeps what is held. Push: a block rewritten, and one version more.
pub mod Trimmed
pub mod Moving
pub mod Push
