pub mod BodyExamples
pub mod BodyLaws
pub mod ColumnsLaws
