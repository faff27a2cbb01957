-- The written gifts: ascending, each at most once, complete, and none but what is found.
pub mod Ascending
pub mod Beginnings
pub mod Complete
pub mod Found
pub mod GoingOn
pub mod Named
pub mod OneFile
pub mod Parts
pub mod Sound
pub mod Ways
