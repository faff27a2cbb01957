-- Lemmas for callers, about `WritesText`, which is opaque to them, and about a writer behind a reference.
pub use Rattle.glob_console.proofs.BorrowedLemmas.{Appends-borrowed}
pub use Rattle.glob_console.proofs.WritingLemmas.{text_at_fault}
