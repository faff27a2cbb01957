-- Contents: their keys and directories, the paths in them, and listings in order.
pub mod Contents
pub mod Directories
pub mod Extending
pub mod Membership
pub mod Names
pub mod Resolving
pub mod Sorting
