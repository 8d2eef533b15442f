pub mod Exported
pub mod ExportedPart
