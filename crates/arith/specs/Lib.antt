-- The definitions of `arith`, their laws and examples. HalfToEven: which whole number a quotient is.
pub mod Integer
