-- The records in some bytes, and which of them a pattern matches. A line is a record that a line feed ends.
use Rattle.std.specs.Prelude.{◌≡◌, ◌≢◌, ℕ, ◌-◌, ◌^◌, ◌==◌, ◌&&◌, ◌⊎◌, Bool, if◌then◌else◌, All, List, [], ◌∷◌, ◌++◌}
use Rattle.std.specs.Prelude.{Option, IfSome, length, min, take, true}
use Rattle.std.specs.Str.{chars, is_utf8}
use Rattle.std.specs.List.{flat_map}
use Rattle.std.specs.Io.KnownBytes.{Appends, Consumes}
use Rattle.glob_pattern.specs.Computing.Deciding.{is_match}
use Rattle.glob_pattern.specs.Matching.Texts.{Matches}
use Rattle.glob_pattern.specs.declared.options.MatchOptions.{MatchOptions}

-- LF, which ends a line
abbrev pub line_feed : ℕ
line_feed = 10

-- the records with one more byte at the start of the first
abbrev pub onto_first : ℕ → List (List ℕ) → List (List ℕ)
onto_first b [] = (b ∷ []) ∷ []
onto_first b (first ∷ others) = (b ∷ first) ∷ others

-- The byte `end` ends a record and is not part of it. What follows the last such byte is a record if it is not empty.
abbrev pub records_of : (end : ℕ) → List ℕ → List (List ℕ)
records_of end [] = []
records_of end (b ∷ bs) = if b == end then [] ∷ records_of end bs else onto_first b (records_of end bs)

-- no byte ends a record
abbrev pub HasNoEnd : (end : ℕ) → List ℕ → Type 0
HasNoEnd end bytes = All (λ b. b ≢ end) bytes

-- the bytes are complete records: they are empty, or `end` is the last byte
abbrev pub AreWhole : (end : ℕ) → List ℕ → Type 0
AreWhole end bytes = (bytes ≡ []) ⊎ ((front : List ℕ) × (bytes ≡ front ++ end ∷ []))

-- the record is UTF-8, and the pattern matches it
abbrev pub RecordMatches : MatchOptions → (pattern : List ℕ) → List ℕ → Type 0
RecordMatches o pattern bytes = (is_utf8 bytes ≡ true) × Matches o (chars pattern) (chars bytes)

-- the same, computed
abbrev pub record_matches : MatchOptions → (pattern : List ℕ) → List ℕ → Bool
record_matches o pattern bytes = is_utf8 bytes && is_match o (chars pattern) (chars bytes)

-- `kept` are the records that satisfy P, in order
abbrev pub AreKept : (List ℕ → Type 0) → (records : List (List ℕ)) → (kept : List (List ℕ)) → Type 0
AreKept P [] kept = kept ≡ []
AreKept P (first ∷ records) kept =
    (P first × ((others : List (List ℕ)) × (kept ≡ first ∷ others) × AreKept P records others))
    ⊎ ((¬ (P first)) × AreKept P records kept)

-- a record as it is written
abbrev pub ended_record : (end : ℕ) → List ℕ → List ℕ
ended_record end bytes = bytes ++ end ∷ []

-- each record and its end
abbrev pub with_ends : (end : ℕ) → List (List ℕ) → List ℕ
with_ends end records = flat_map (ended_record end) records

-- the selection selects the record
abbrev pub Selected : (List ℕ → Bool) → List ℕ → Type 0
Selected selects bytes = selects bytes ≡ true

-- the first n of the bytes were written, for some n
abbrev pub AppendsFront : (old new : Option (List ℕ)) → (bytes : List ℕ) → Type 0
AppendsFront old new bytes = (n : ℕ) × Appends old new (take n bytes)

-- For each record that satisfies P, what `write` gives was written, after what the writer held before. `count` is the
-- number of these records, which stops at `u64::MAX`.
abbrev pub WritesEach : (end : ℕ) → (write : List ℕ → List ℕ) → (P : List ℕ → Type 0) → (input : List ℕ)
    → (old new : Option (List ℕ)) → (count : ℕ) → Type 0
WritesEach end write P input old new count =
    (kept : List (List ℕ))
    × AreKept P (records_of end input) kept
    × Appends old new (flat_map write kept)
    × (count ≡ min (length kept) (2 ^ 64 - 1))

-- the same for the first n of these records only, for some n
abbrev pub WritesSomeOf : (end : ℕ) → (write : List ℕ → List ℕ) → (P : List ℕ → Type 0) → (input : List ℕ)
    → (old new : Option (List ℕ)) → Type 0
WritesSomeOf end write P input old new =
    (kept : List (List ℕ))
    × AreKept P (records_of end input) kept
    × ((n : ℕ) × Appends old new (flat_map write (take n kept)))

-- the first n of these bytes were written, for some n
abbrev pub WritesBytesOf : (end : ℕ) → (write : List ℕ → List ℕ) → (P : List ℕ → Type 0) → (input : List ℕ)
    → (old new : Option (List ℕ)) → Type 0
WritesBytesOf end write P input old new =
    (kept : List (List ℕ))
    × AreKept P (records_of end input) kept
    × ((n : ℕ) × Appends old new (take n (flat_map write kept)))

-- the same three for records that are written as they are, each with its end
abbrev pub WritesKept : (end : ℕ) → (P : List ℕ → Type 0) → (input : List ℕ) → (old new : Option (List ℕ)) → (count : ℕ) → Type 0
WritesKept end P input old new count = WritesEach end (ended_record end) P input old new count

abbrev pub WritesSomeKept : (end : ℕ) → (P : List ℕ → Type 0) → (input : List ℕ) → (old new : Option (List ℕ)) → Type 0
WritesSomeKept end P input old new = WritesSomeOf end (ended_record end) P input old new

abbrev pub WritesKeptBytes : (end : ℕ) → (P : List ℕ → Type 0) → (input : List ℕ) → (old new : Option (List ℕ)) → Type 0
WritesKeptBytes end P input old new = WritesBytesOf end (ended_record end) P input old new

-- the same three for the records that the pattern matches
abbrev pub WritesRecords : (end : ℕ) → MatchOptions → (pattern input : List ℕ) → (old new : Option (List ℕ)) → (count : ℕ) → Type 0
WritesRecords end o pattern input old new count = WritesKept end (RecordMatches o pattern) input old new count

abbrev pub WritesSomeRecords : (end : ℕ) → MatchOptions → (pattern input : List ℕ) → (old new : Option (List ℕ)) → Type 0
WritesSomeRecords end o pattern input old new = WritesSomeKept end (RecordMatches o pattern) input old new

abbrev pub WritesSomeBytes : (end : ℕ) → MatchOptions → (pattern input : List ℕ) → (old new : Option (List ℕ)) → Type 0
WritesSomeBytes end o pattern input old new = WritesKeptBytes end (RecordMatches o pattern) input old new

-- What `write` gives was written for each selected record, if the input is known. This and the next two say nothing if
-- it is not.
unfoldable pub Rewrites : (end : ℕ) → (selects : List ℕ → Bool) → (write : List ℕ → List ℕ) →
    (input old new : Option (List ℕ)) → (count : ℕ) → Type 0
Rewrites end selects write input old new count =
    IfSome input (λ bytes. WritesEach end write (Selected selects) bytes old new count)

-- the same for the first n of these records only, for some n
unfoldable pub RewritesSome : (end : ℕ) → (selects : List ℕ → Bool) → (write : List ℕ → List ℕ) → (input old new : Option (List ℕ)) → Type 0
RewritesSome end selects write input old new =
    IfSome input (λ bytes. WritesSomeOf end write (Selected selects) bytes old new)

-- the first n of these bytes were written, for some n
unfoldable pub RewritesBytes : (end : ℕ) → (selects : List ℕ → Bool) → (write : List ℕ → List ℕ) →
    (input old new : Option (List ℕ)) → Type 0
RewritesBytes end selects write input old new =
    IfSome input (λ bytes. WritesBytesOf end write (Selected selects) bytes old new)

-- What was read of the input is complete records and a part without an end. What `write` gives was written for exactly
-- the selected ones of these records.
unfoldable pub RewritesWhole : (end : ℕ) → (selects : List ℕ → Bool) → (write : List ℕ → List ℕ) →
    (input rest old new : Option (List ℕ)) → Type 0
RewritesWhole end selects write input rest old new =
    (whole : List ℕ) × ((partial : List ℕ)
    × Consumes input rest (whole ++ partial)
    × AreWhole end whole
    × HasNoEnd end partial
    × ((kept : List (List ℕ))
    × AreKept (Selected selects) (records_of end whole) kept
    × Appends old new (flat_map write kept)))

-- the same four for selected records that are copied as they are, each with its end
abbrev pub CopiesSelected : (end : ℕ) → (List ℕ → Bool) → (input old new : Option (List ℕ)) → (count : ℕ) → Type 0
CopiesSelected end selects input old new count = Rewrites end selects (ended_record end) input old new count

abbrev pub CopiesSomeSelected : (end : ℕ) → (List ℕ → Bool) → (input old new : Option (List ℕ)) → Type 0
CopiesSomeSelected end selects input old new = RewritesSome end selects (ended_record end) input old new

abbrev pub CopiesSelectedBytes : (end : ℕ) → (List ℕ → Bool) → (input old new : Option (List ℕ)) → Type 0
CopiesSelectedBytes end selects input old new = RewritesBytes end selects (ended_record end) input old new

abbrev pub CopiesWholeSelected : (end : ℕ) → (List ℕ → Bool) → (input rest old new : Option (List ℕ)) → Type 0
CopiesWholeSelected end selects input rest old new = RewritesWhole end selects (ended_record end) input rest old new

-- the same three for the records that a pattern matches
unfoldable pub FiltersRecords : (end : ℕ) → MatchOptions → (pattern : List ℕ) → (input old new : Option (List ℕ)) → (count : ℕ) → Type 0
FiltersRecords end o pattern input old new count = IfSome input (λ bytes. WritesRecords end o pattern bytes old new count)

unfoldable pub FiltersSomeRecords : (end : ℕ) → MatchOptions → (pattern : List ℕ) → (input old new : Option (List ℕ)) → Type 0
FiltersSomeRecords end o pattern input old new = IfSome input (λ bytes. WritesSomeRecords end o pattern bytes old new)

unfoldable pub FiltersRecordBytes : (end : ℕ) → MatchOptions → (pattern : List ℕ) → (input old new : Option (List ℕ)) → Type 0
FiltersRecordBytes end o pattern input old new = IfSome input (λ bytes. WritesSomeBytes end o pattern bytes old new)

-- the same three for lines
abbrev pub FiltersLines : MatchOptions → (pattern : List ℕ) → (input old new : Option (List ℕ)) → (count : ℕ) → Type 0
FiltersLines o pattern input old new count = FiltersRecords line_feed o pattern input old new count

abbrev pub FiltersSomeLines : MatchOptions → (pattern : List ℕ) → (input old new : Option (List ℕ)) → Type 0
FiltersSomeLines o pattern input old new = FiltersSomeRecords line_feed o pattern input old new

abbrev pub FiltersSomeBytes : MatchOptions → (pattern : List ℕ) → (input old new : Option (List ℕ)) → Type 0
FiltersSomeBytes o pattern input old new = FiltersRecordBytes line_feed o pattern input old new
