-- Places: a table by the cells in which its values stand. Recorded: the sets of a row, in its cells. RestartFrom, Walk: what the walk asks and leaves.
pub mod Places
pub mod Recorded
pub mod RestartFrom
pub mod Walk
