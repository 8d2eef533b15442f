-- Passing: the turns one after another. LentAreas: the loop over the areas. Answer: the call.
pub mod Passing
pub mod LentAreas
pub mod Answer
