pub mod Body
pub mod BodyLaws
pub mod Columns
pub mod Encode
