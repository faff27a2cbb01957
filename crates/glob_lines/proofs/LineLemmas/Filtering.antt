-- Copies of the records of a known input, and what they wrote. The definitions are opaque in other files.
use Rattle.std.proofs.Common.{◌≡◌, ℕ, ◌⊎◌, List, [], ◌++◌, Bool, Option, None, Some, Result, Ok, Err, OnErr, take, drop}
use Rattle.std.proofs.Common.{sym, ap, ◌∙◌, append-nil, subst}
use Rattle.std.specs.Prelude.{IfSome, IsErrAnd, length}
use lib.Seq.{take-append_seam}
use Rattle.std.proofs.lemmas.List.{take-append-drop}
use Rattle.std.specs.List.{flat_map}
use Rattle.std.proofs.lemmas.List.Concat.{flat_map-append}
use Rattle.std.specs.Io.KnownBytes.{Appends, Consumes, IsAtEnd, Keeps}
use Rattle.glob_lines.specs.LineFaults.{IsRead, IsMemory, IsWrite}
use Rattle.glob_lines.specs.Lines.{records_of, ended_record, AreKept, RecordMatches, record_matches}
use Rattle.glob_lines.specs.Lines.{Selected, WritesEach, WritesSomeOf, WritesBytesOf, WritesKept, WritesRecords}
use Rattle.glob_lines.specs.Lines.{WritesSomeRecords, WritesSomeBytes, RewritesSome, RewritesBytes}
use Rattle.glob_lines.specs.Lines.{RewritesWhole, FiltersRecords, FiltersSomeRecords, FiltersRecordBytes}
use Rattle.glob_lines.specs.declared.fault.LineFault.{LineFault}
use Rattle.glob_lines.specs.declared.fault.LineFault.TheVariants as fault
use Rattle.glob_lines.proofs.LineLemmas.KeptLines.{AreKept-same}
use Rattle.glob_lines.specs.Private.Fronts.{WritesFrontRecords, WritesFrontBytes}
use Rattle.glob_lines.proofs.LineLemmas.CopiedRecords.{some_by_whole}
use Rattle.glob_lines.proofs.LineLemmas.KnownMoves.{IfSome-all_read}
use Rattle.glob_lines.proofs.LineLemmas.MatchingLines.{kept_records, matches_by_record, record_by_matches}
use Rattle.glob_lines.proofs.LineLemmas.MatchingLines.{record_decided, selected_decided, some_records-none, IfSome-each}
use Rattle.glob_pattern.specs.declared.options.MatchOptions.{MatchOptions}

-- the second writer received the bytes that the first one received
abbrev AlsoAppends : (old new old' new' : Option (List ℕ)) → Type 0
AlsoAppends old new old' new' = (bytes : List ℕ) → Appends old new bytes → Appends old' new' bytes

module _ (end : ℕ) (o : MatchOptions) (pattern : List ℕ) (input old new : Option (List ℕ)) where
  -- The records of an input are filtered if they were written, in case the input is known.
  pub records_by_writing : (count : ℕ) → IfSome input (λ bytes. WritesRecords end o pattern bytes old new count)
      → FiltersRecords end o pattern input old new count
  unfolding FiltersRecords
  records_by_writing count wrote = wrote

  -- The converse.
  pub writing_of_records : (count : ℕ) → FiltersRecords end o pattern input old new count → IfSome input
      (λ bytes. WritesRecords end o pattern bytes old new count)
  unfolding FiltersRecords
  writing_of_records count filters = filters

  -- The same for the first records.
  pub some_records_by_writing : IfSome input (λ bytes. WritesSomeRecords end o pattern bytes old new)
      → FiltersSomeRecords end o pattern input old new
  unfolding FiltersSomeRecords
  some_records_by_writing wrote = wrote

  pub writing_of_some_records : FiltersSomeRecords end o pattern input old new → IfSome input
      (λ bytes. WritesSomeRecords end o pattern bytes old new)
  unfolding FiltersSomeRecords
  writing_of_some_records filters = filters

  -- The same for the first bytes.
  pub some_bytes_by_writing : IfSome input (λ bytes. WritesSomeBytes end o pattern bytes old new) → FiltersRecordBytes
      end o pattern input old new
  unfolding FiltersRecordBytes
  some_bytes_by_writing wrote = wrote

  pub writing_of_some_bytes : FiltersRecordBytes end o pattern input old new → IfSome input
      (λ bytes. WritesSomeBytes end o pattern bytes old new)
  unfolding FiltersRecordBytes
  writing_of_some_bytes filters = filters

-- The records that a test keeps, of an input that may be known.
module _ (end : ℕ) (write : List ℕ → List ℕ) (P : List ℕ → Type 0) where
  -- A writer that received the same bytes received the same records.
  kept_elsewhere : (input old new old' new' : Option (List ℕ)) (count : ℕ) → AlsoAppends old new old' new'
      → IfSome input (λ bytes. WritesEach end write P bytes old new count) → IfSome input (λ bytes. WritesEach end write P bytes
      old' new' count)
  kept_elsewhere None old new old' new' count also wrote = tt
  kept_elsewhere (Some bytes) old new old' new' count also (kept, are, wrote, counted) = (kept, are, also _ wrote, counted)

  -- The same for the first bytes.
  kept_bytes_elsewhere : (input old new old' new' : Option (List ℕ)) → AlsoAppends old new old' new' → IfSome input
      (λ bytes. WritesBytesOf end write P bytes old new) → IfSome input (λ bytes. WritesBytesOf end write P bytes old' new')
  kept_bytes_elsewhere None old new old' new' also wrote = tt
  kept_bytes_elsewhere (Some bytes) old new old' new' also (kept, are, (n, wrote)) = (kept, are, (n, also _ wrote))

  keeping_appends_none : (old new : Option (List ℕ)) → Keeps old new → Appends old new []
  keeping_appends_none None new same = tt
  keeping_appends_none (Some bytes) None same = absurd same
  keeping_appends_none (Some bytes) (Some more) same = same ∙ sym (append-nil bytes)

  -- Nothing was written: the first zero bytes.
  kept_bytes_by_keeping : ((one : List ℕ) → P one ⊎ (¬ (P one))) → (input old new : Option (List ℕ)) → Keeps old new
      → IfSome input (λ bytes. WritesBytesOf end write P bytes old new)
  kept_bytes_by_keeping decided None old new same = tt
  kept_bytes_by_keeping decided (Some bytes) old new same =
      let (kept, are) = kept_records end P decided bytes in (kept, are, (0, keeping_appends_none old new same))

  -- The first records are the first bytes.
  kept_bytes_by_records : (input old new : Option (List ℕ)) → IfSome input (λ bytes. WritesSomeOf end write P bytes old
      new) → IfSome input (λ bytes. WritesBytesOf end write P bytes old new)
  kept_bytes_by_records None old new some = tt
  kept_bytes_by_records (Some bytes) old new (kept, are, (n, wrote)) =
      let front = flat_map write (take n kept) in
      let rest = flat_map write (drop n kept) in
      let split : flat_map write kept ≡ front ++ rest = ap (flat_map write) (sym (take-append-drop n kept))
      ∙ flat_map-append write (take n kept) (drop n kept) in
      (kept, are, (length front, subst (Appends old new) (sym (ap (take (length front)) split ∙ take-append_seam front rest)) wrote))

  module _ (input old new : Option (List ℕ)) where
    kept_bytes_at : (f : LineFault) → (IsRead f → IfSome input (λ bytes. WritesBytesOf end write P bytes old new)) →
        (IsMemory f → IfSome input (λ bytes. WritesSomeOf end write P bytes old new)) → (IsWrite f → IfSome input
        (λ bytes. WritesBytesOf end write P bytes old new))
        → IfSome input (λ bytes. WritesBytesOf end write P bytes old new)
    kept_bytes_at (fault.Read e) read memory writing = read tt
    kept_bytes_at fault.Memory read memory writing = kept_bytes_by_records input old new (memory tt)
    kept_bytes_at (fault.Write e) read memory writing = writing tt

    -- at each fault, the first bytes were written
    kept_bytes_at_fault : (r : Result ℕ LineFault) → (IsErrAnd r IsRead → IfSome input (λ bytes. WritesBytesOf end write P
        bytes old new)) → (IsErrAnd r IsMemory → IfSome input (λ bytes. WritesSomeOf end write P bytes old new))
        → (IsErrAnd r IsWrite → IfSome input (λ bytes. WritesBytesOf end write P bytes old new)) → OnErr r
        (IfSome input (λ bytes. WritesBytesOf end write P bytes old new))
    kept_bytes_at_fault (Ok n) read memory writing = tt
    kept_bytes_at_fault (Err f) read memory writing = kept_bytes_at f read memory writing

module _ (end : ℕ) (o : MatchOptions) (pattern : List ℕ) where
  -- A writer that received the same bytes received the same filtered records.
  pub records_elsewhere : (input old new old' new' : Option (List ℕ)) (count : ℕ) → AlsoAppends old new old' new'
      → FiltersRecords end o pattern input old new count → FiltersRecords end o pattern input old' new' count
  unfolding FiltersRecords
  records_elsewhere input old new old' new' count also filters = kept_elsewhere end (ended_record end) (RecordMatches o pattern) input old
      new old' new' count also filters

  -- The same for the first bytes.
  pub some_bytes_elsewhere : (input old new old' new' : Option (List ℕ)) → AlsoAppends old new old' new'
      → FiltersRecordBytes end o pattern input old new → FiltersRecordBytes end o pattern input old' new'
  unfolding FiltersRecordBytes
  some_bytes_elsewhere input old new old' new' also filters = kept_bytes_elsewhere end (ended_record end) (RecordMatches o pattern) input
      old new old' new' also filters

  -- Nothing was written: the first zero bytes.
  pub some_bytes_by_keeping : (input old new : Option (List ℕ)) → Keeps old new → FiltersRecordBytes end o pattern input old new
  unfolding FiltersRecordBytes
  some_bytes_by_keeping input old new same = kept_bytes_by_keeping end (ended_record end) (RecordMatches o pattern)
      (record_decided o pattern) input old new same

  -- The first records are the first bytes.
  pub some_bytes_by_records : (input old new : Option (List ℕ)) → FiltersSomeRecords end o pattern input old new
      → FiltersRecordBytes end o pattern input old new
  unfolding FiltersSomeRecords FiltersRecordBytes
  some_bytes_by_records input old new some = kept_bytes_by_records end (ended_record end) (RecordMatches o pattern) input old new some

  -- At each fault of `filter_records`, the first bytes were written.
  pub some_bytes_at_fault : (input old new : Option (List ℕ)) (r : Result ℕ LineFault) → (IsErrAnd r IsRead
      → Keeps old new) → (IsErrAnd r IsMemory → FiltersSomeRecords end o pattern input old new)
      → (IsErrAnd r IsWrite → FiltersRecordBytes end o pattern input old new) → OnErr r (FiltersRecordBytes end o pattern input old new)
  unfolding FiltersSomeRecords FiltersRecordBytes
  some_bytes_at_fault input old new r read memory write = kept_bytes_at_fault end (ended_record end)
      (RecordMatches o pattern) input old new r
      (λ is. kept_bytes_by_keeping end (ended_record end) (RecordMatches o pattern) (record_decided o pattern) input old
      new (read is)) memory write

module _ (end : ℕ) (selects : List ℕ → Bool) (write : List ℕ → List ℕ) where
  pub selected_bytes_by_keeping : (input old new : Option (List ℕ)) → Keeps old new → RewritesBytes end selects write input old new
  unfolding RewritesBytes
  selected_bytes_by_keeping input old new same = kept_bytes_by_keeping end write (Selected selects)
      (selected_decided selects) input old new same

  -- something was written for the selected ones of the whole records that were read, so the first bytes were
  selected_bytes_by_whole : (input rest old new : Option (List ℕ)) → RewritesWhole end selects write input rest old new
      → IfSome input (λ bytes. WritesBytesOf end write (Selected selects) bytes old new)
  unfolding RewritesWhole
  selected_bytes_by_whole input rest old new (whole, (partial, read, ended, none, (kept, are, wrote))) =
      kept_bytes_by_records end write (Selected selects) input old new
      (some_by_whole end write (Selected selects) (selected_decided selects) input rest whole partial kept old new read ended are wrote)

  -- At each fault of `rewrite_selected`, the first bytes were written.
  pub selected_bytes_at_fault : (input rest old new : Option (List ℕ)) (r : Result ℕ LineFault) → (IsErrAnd r IsRead
      → RewritesWhole end selects write input rest old new)
      → (IsErrAnd r IsMemory → RewritesSome end selects write input old new) → (IsErrAnd r IsWrite
      → RewritesBytes end selects write input old new) → OnErr r (RewritesBytes end selects write input old new)
  unfolding RewritesSome RewritesBytes
  selected_bytes_at_fault input rest old new r read memory writing =
      kept_bytes_at_fault end write (Selected selects) input old new r
      (λ is. selected_bytes_by_whole input rest old new (read is)) memory writing

-- The records that a pattern matches are those that a computed test selects. If the input is known and was read to its
-- end, the bytes read are the input.
module _ (end : ℕ) (o : MatchOptions) (pattern : List ℕ) where
  records_are : (records kept : List (List ℕ)) → AreKept (Selected (record_matches o pattern)) records kept → AreKept
      (RecordMatches o pattern) records kept
  records_are records kept are = AreKept-same (Selected (record_matches o pattern)) (RecordMatches o pattern)
      (matches_by_record o pattern) (record_by_matches o pattern) records kept are

  module _ (left rest : Option (List ℕ)) (bytes : List ℕ) (read : Consumes left rest bytes) (at_end : IsAtEnd rest)
      (old new : Option (List ℕ)) where
    pub records_by_selected : (count : ℕ) → WritesKept end (Selected (record_matches o pattern)) bytes old new count
        → FiltersRecords end o pattern left old new count
    unfolding FiltersRecords
    records_by_selected count (kept, are, wrote, counted) =
        IfSome-all_read left rest bytes read at_end (λ input. WritesRecords end o pattern input old new count)
        (kept, records_are (records_of end bytes) kept are, wrote, counted)

    pub some_records_by_selected : WritesFrontRecords end (ended_record end) (Selected (record_matches o pattern)) bytes old new
        → FiltersSomeRecords end o pattern left old new
    unfolding FiltersSomeRecords
    some_records_by_selected fronts =
        let (kept, are) = kept_records end (Selected (record_matches o pattern)) (selected_decided (record_matches o pattern)) bytes in
        IfSome-all_read left rest bytes read at_end (λ input. WritesSomeRecords end o pattern input old new)
        (kept, records_are (records_of end bytes) kept are, fronts kept are)

    pub some_bytes_by_selected : WritesFrontBytes end (ended_record end) (Selected (record_matches o pattern)) bytes old new
        → FiltersRecordBytes end o pattern left old new
    unfolding FiltersRecordBytes
    some_bytes_by_selected fronts =
        let (kept, are) = kept_records end (Selected (record_matches o pattern)) (selected_decided (record_matches o pattern)) bytes in
        IfSome-all_read left rest bytes read at_end (λ input. WritesSomeBytes end o pattern input old new)
        (kept, records_are (records_of end bytes) kept are, fronts kept are)

  -- nothing was written: the first zero records
  pub some_records_by_none : (left known : Option (List ℕ)) → FiltersSomeRecords end o pattern left known known
  unfolding FiltersSomeRecords
  some_records_by_none left known =
      IfSome-each left (λ input. WritesSomeRecords end o pattern input known known) (λ input. some_records-none end
      (RecordMatches o pattern) (record_decided o pattern) input known)
