pub mod BorrowedLemmas
pub mod CallerLemmas
pub mod FoundLemmas
pub mod ItemLemmas
pub mod NotingLemmas
pub mod NumberLemmas
pub mod WritingLemmas
