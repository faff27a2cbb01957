-- Position sets of the automaton, as words of bits.
pub mod Alive
pub mod DeadPlaces
pub mod DeadWords
pub mod LastOnes
pub mod Mapped
pub mod Prefixes
pub mod Running
pub mod Spreading
pub mod Words
