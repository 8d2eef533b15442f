-- Closing: definitions. Beside: the readers beside the one that closes. Seen: which version it saw. Dropped: a block without one version.
-- Close: one object. ObjectLoop: all of them. Laid: objects given by their versions and bounds.
pub mod Closing
pub mod Beside
pub mod Seen
pub mod Dropped
pub mod Close
pub mod ObjectLoop
pub mod Laid
