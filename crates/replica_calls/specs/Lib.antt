pub mod OpeningAnswers
pub mod UnfitShown
