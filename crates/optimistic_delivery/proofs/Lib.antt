pub mod DeliveredLaws
pub mod DeliveredTests
