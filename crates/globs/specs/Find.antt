pub mod Above
pub mod Aiming
pub mod Below
pub mod Kinds
pub mod Leads
pub mod Outcomes
pub mod Strays
pub mod Writing
