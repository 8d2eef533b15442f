-- Block: definitions. OnePass: the one-pass forms say what the definitions say. BlockLoops: a turn of each loop, and the cases of the block check.
-- Round: round trips of one block. AllBlocks: all objects.
pub mod Block
