pub mod Copying
pub mod NameTable
pub mod Names
pub mod OneFile
pub mod PathOptions
pub mod Sources
pub mod WalkFaults
