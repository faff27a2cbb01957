-- Lemmas for callers, about `FiltersRecords`, `CopiesSelected` and similar definitions, which are opaque to them.
pub use Rattle.glob_lines.proofs.LineLemmas.Filtering.{records_by_writing, some_records_by_writing}
pub use Rattle.glob_lines.proofs.LineLemmas.Filtering.{some_bytes_by_writing, writing_of_records}
pub use Rattle.glob_lines.proofs.LineLemmas.Filtering.{writing_of_some_records, writing_of_some_bytes}
pub use Rattle.glob_lines.proofs.LineLemmas.Filtering.{records_elsewhere, some_bytes_elsewhere, some_bytes_by_keeping}
pub use Rattle.glob_lines.proofs.LineLemmas.Filtering.{some_bytes_by_records, some_bytes_at_fault}
pub use Rattle.glob_lines.proofs.LineLemmas.Filtering.{selected_bytes_by_keeping, selected_bytes_at_fault}
