pub mod LooseValues
pub mod Messages
pub mod Resumed
pub mod SlotBoxes
pub mod SlotValues
pub mod Written
