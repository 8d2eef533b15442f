-- What the proofs of `operation_decoder` share.
pub mod First
