-- The written listing: kinds of components, descents by `**`, and the cut at a limit.
pub mod ComponentKinds
pub mod Descending
pub mod Looking
pub mod Marks
