-- One object's test: its block's and its bounds' together.
pub mod ObjectTests
pub mod EachObject
