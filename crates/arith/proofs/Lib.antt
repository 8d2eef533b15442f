-- What the proofs of `arith` share.
pub mod Sums
pub mod HalfToEven
pub mod IntegerExamples
pub mod IntegerLaws
