-- The walk against the written listing: reading the pattern, turns, frames, the stack, and steps.
pub mod Charging
pub mod Depths
pub mod Driving
pub mod Entering
pub mod Giving
pub mod Kinds
pub mod Listings
pub mod Literals
pub mod MachineSteps
pub mod Merging
pub mod Naming
pub mod Opening
pub mod Reading
pub mod SameTexts
pub mod Stacking
pub mod Stepping
pub mod Works
