-- Effects: definitions that the contracts cite. SetPlaces: an entry of a set at the front of an array. OneOperation: one law for each way out of the code.
pub mod Effects
pub mod SetPlaces
pub mod OneOperation
