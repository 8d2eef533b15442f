-- Difference: a value inside the bounds, by one difference. ObjectBounds: an object's bounds beside its versions.
pub mod Difference
pub mod ObjectBounds
