-- Previews: what a dry run promises. Values, Foreseen: the values, and what is shown of a transaction. Tried: the whole call.
pub mod Previews
pub mod Values
pub mod Foreseen
pub mod Tried
