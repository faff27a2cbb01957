-- Disks: what the calls of a system find, and the looks and listings that follow.
pub mod Above
pub mod Answering
pub mod Finding
pub mod Holding
pub mod Listing
pub mod Looking
pub mod Losing
pub mod Naming
pub mod Opening
pub mod Reading
pub mod Reporting
pub mod Saying
pub mod Settling
pub mod Ways
