-- InstalledVersions: installing a write set, on lists. CommittedBlock: an object's block after a commit. Install, Publish: what each function asks
-- and leaves, and the laws of its turns and steps. Positions: what the crates of a final delivery share.
pub mod InstalledVersions
pub mod CommittedBlock
pub mod Install
pub mod Publish
pub mod Positions
