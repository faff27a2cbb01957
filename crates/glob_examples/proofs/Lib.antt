pub mod Aligned
pub mod Chosen
pub mod EscapedFolders
pub mod NameSplits
pub mod OneFile
pub mod Refusals
pub mod WalkFaults
