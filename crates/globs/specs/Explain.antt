-- What `explain` writes: the verdict, the pieces or hints, what it offers instead, and the status.
pub mod Hints
pub mod Offers
pub mod Outcomes
pub mod Verdict
