-- The grammar of patterns: units, tokens and faults, and how they are computed.
pub mod Accepted
pub mod Accepting
pub mod Closing
pub mod FaultKinds
pub mod Folding
pub mod Reading
pub mod Units
pub mod Written
pub mod WrittenUnits
