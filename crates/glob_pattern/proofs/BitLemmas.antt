-- Bits of machine words.
pub mod Digits
pub mod LowestBits
pub mod SetBits
