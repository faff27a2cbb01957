-- The records of an input copied as they come: what was read, and what was written.
use Rattle.std.proofs.Common.{◌≡◌, ℕ, ◌+◌, ◌-◌, ◌^◌, min, List, [], ◌++◌, Option, None, Some, length, take, drop}
use Rattle.std.proofs.Common.{refl, sym, ap, ◌∙◌, subst, append-nil, append_assoc, take-append-drop, length-append}
use Rattle.std.proofs.Common.{arith}
use Rattle.std.specs.List.{flat_map}
use Rattle.std.specs.Prelude.{IfSome, ◌⊎◌}
use lib.Seq.{take-add, take-append_seam}
use Rattle.std.specs.Io.KnownBytes.{Appends, Consumes, IsAtEnd, Keeps}
use Rattle.std.proofs.KnownBytes.{Appends-trans, Consumes-trans, Consumes-kept}
use Rattle.std.proofs.lemmas.List.Concat.{flat_map-append}
use Rattle.glob_lines.specs.Lines.{records_of, AreKept, AreWhole, HasNoEnd, WritesEach}
use Rattle.glob_lines.specs.Lines.{WritesSomeOf, WritesBytesOf}
use Rattle.glob_lines.specs.Private.Fronts.{WritesFrontRecords, WritesFrontBytes}
use Rattle.glob_lines.proofs.LineLemmas.FilteredLines.{cut_after}
use Rattle.glob_lines.proofs.LineLemmas.KeptLines.{AreKept-append, AreKept-exists}
use Rattle.glob_lines.proofs.LineLemmas.KnownMoves.{IfSome-all_read}
use Rattle.glob_lines.proofs.LineLemmas.LineSplits.{records_of-whole, AreWhole-append}

module _ (end : ℕ) (write : List ℕ → List ℕ) (P : List ℕ → Type 0) where
  -- Whole records and then `partial`, a record without its end, were read from the input `left`, and `now` is still to
  -- come. The whole records that P keeps were written.
  pub record AreCopied (left now : Option (List ℕ)) (partial : List ℕ) (old new : Option (List ℕ)) (count : ℕ) : Type 0 where
    pub whole : List ℕ
    pub kept : List (List ℕ)
    pub read : Consumes left now (whole ++ partial)
    pub ended : AreWhole end whole
    pub none : HasNoEnd end partial
    pub are : AreKept P (records_of end whole) kept
    pub wrote : Appends old new (flat_map write kept)
    pub counted : count ≡ min (length kept) (2 ^ 64 - 1)

  -- One more read. `partial` and what it gave are `front` and `rest`. If the rest of the input is known, no record
  -- begins in `front` and ends after it.
  pub record IsBlock (now now' : Option (List ℕ)) (partial front rest : List ℕ) : Type 0 where
    pub piece : List ℕ
    pub read : Consumes now now' piece
    pub split : partial ++ piece ≡ front ++ rest
    pub apart : IfSome now' (λ more. records_of end (front ++ (rest ++ more)) ≡ records_of end front ++ records_of end (rest ++ more))

  apart_whole : (now' : Option (List ℕ)) (front rest : List ℕ) → AreWhole end front
      → IfSome now' (λ more. records_of end (front ++ (rest ++ more)) ≡ records_of end front ++ records_of end (rest ++ more))
  apart_whole None front rest whole = tt
  apart_whole (Some more) front rest whole = records_of-whole end front (rest ++ more) whole

  -- A read put `len` bytes after the earlier ones. The first `w` of all these `bytes` are whole records, and so a
  -- block.
  pub IsBlock-whole : (now now' : Option (List ℕ)) (held items bytes : List ℕ) (filled len w : ℕ) → take filled items ≡ take filled held
      → Consumes now now' (take len (drop filled items)) → bytes ≡ take (filled + len) items → AreWhole end (take w bytes)
      → IsBlock now now' (take filled held) (take w bytes) (drop w bytes)
  IsBlock-whole now now' held items bytes filled len w same read is whole = record {
    piece = take len (drop filled items);
    read = read;
    split = ap (λ l. l ++ take len (drop filled items)) (sym same) ∙ sym (take-add filled len items) ∙ sym is ∙ sym
        (take-append-drop w bytes);
    apart = apart_whole now' (take w bytes) (drop w bytes) whole;
  }

  apart_last : (now' : Option (List ℕ)) (front : List ℕ) → IsAtEnd now'
      → IfSome now' (λ more. records_of end (front ++ ([] ++ more)) ≡ records_of end front ++ records_of end ([] ++ more))
  apart_last None front at_end = tt
  apart_last (Some more) front at_end =
      subst (λ l. records_of end (front ++ l) ≡ records_of end front ++ records_of end l) (sym at_end)
      (ap (records_of end) (append-nil front) ∙ sym (append-nil (records_of end front)))

  -- A read gave nothing, so the bytes before it are the last block.
  pub IsBlock-last : (now now' : Option (List ℕ)) (held items : List ℕ) (filled len : ℕ) → Consumes now now'
      (take len (drop filled items)) → len ≡ 0 → IsAtEnd now'
      → IsBlock now now' (take filled held) (take filled held) []
  IsBlock-last now now' held items filled len read none at_end = record {
    piece = [];
    read = subst (λ n. Consumes now now' (take n (drop filled items))) none read;
    split = refl;
    apart = apart_last now' (take filled held) at_end;
  }

  written-append : (kept others : List (List ℕ)) → flat_map write (kept ++ others) ≡ flat_map write kept ++ flat_map write others
  written-append kept others = flat_map-append write kept others

  counted_both : (a b : List (List ℕ)) (m n : ℕ) → m ≡ min (length a) (2 ^ 64 - 1) → n ≡ min (length b) (2 ^ 64 - 1)
      → min (m + n) (2 ^ 64 - 1) ≡ min (length (a ++ b)) (2 ^ 64 - 1)
  counted_both a b m n first second = omega (arith, length-append a b, first, second)

  -- what was read in all
  read_all : (left now now' : Option (List ℕ)) (whole partial front rest : List ℕ) → Consumes left now
      (whole ++ partial) → IsBlock now now' partial front rest
      → Consumes left now' ((whole ++ front) ++ rest)
  read_all left now now' whole partial front rest before block =
      subst (Consumes left now') (append_assoc whole partial block.piece ∙ ap (λ l. whole ++ l) block.split ∙ sym
      (append_assoc whole front rest))
      (Consumes-trans left now now' (whole ++ partial) block.piece before block.read)

  kept_both : (whole front : List ℕ) (kept others : List (List ℕ)) → AreWhole end whole → AreKept P
      (records_of end whole) kept → AreKept P (records_of end front) others
      → AreKept P (records_of end (whole ++ front)) (kept ++ others)
  kept_both whole front kept others ended are later =
      subst (λ l. AreKept P l (kept ++ others)) (sym (records_of-whole end whole front ended)) (AreKept-append P
      (records_of end whole) (records_of end front) kept others are later)

  with_block : (left now now' : Option (List ℕ)) (partial front rest : List ℕ) (old new new' : Option (List ℕ)) (m n : ℕ)
      → AreCopied left now partial old new m → IsBlock now now' partial front rest → AreWhole end front → HasNoEnd end
      rest → WritesEach end write P front new new' n
      → AreCopied left now' rest old new' (min (m + n) (2 ^ 64 - 1))
  with_block left now now' partial front rest old new new' m n before block whole none (others, later, wrote, counted) = record {
    whole = before.whole ++ front;
    kept = before.kept ++ others;
    read = read_all left now now' before.whole partial front rest before.read block;
    ended = AreWhole-append end before.whole front before.ended whole;
    none = none;
    are = kept_both before.whole front before.kept others before.ended before.are later;
    wrote = subst (Appends old new') (sym (written-append before.kept others)) (Appends-trans old new new' _ _ before.wrote wrote);
    counted = counted_both before.kept others m n before.counted counted;
  }

  -- One more block, of whole records: `sent`. What is after them is now `moved`.
  pub AreCopied-more : (left now now' : Option (List ℕ)) (partial front rest : List ℕ) (old new new' : Option (List ℕ)) (m n : ℕ)
      → AreCopied left now partial old new m → IsBlock now now' partial front rest → AreWhole end front → HasNoEnd end
      rest → (sent : List ℕ) → sent ≡ front
      → WritesEach end write P sent new new' n → (moved : List ℕ) → moved ≡ rest →
      AreCopied left now' moved old new' (min (m + n) (2 ^ 64 - 1))
  AreCopied-more left now now' partial front rest old new new' m n before block whole none sent same wrote_sent moved is =
      subst (λ l. AreCopied left now' l old new' (min (m + n) (2 ^ 64 - 1))) (sym is)
      (with_block left now now' partial front rest old new new' m n before block whole none
      (subst (λ l. WritesEach end write P l new new' n) same wrote_sent))

  -- the last block
  pub AreCopied-last : (left now now' : Option (List ℕ)) (partial front : List ℕ) (old new new' : Option (List ℕ)) (m n : ℕ)
      → AreCopied left now partial old new m → IsBlock now now' partial front [] → IsAtEnd now' → (sent : List ℕ)
      → sent ≡ front → WritesEach end write P sent new new' n
      → IfSome left (λ bytes. WritesEach end write P bytes old new' (min (m + n) (2 ^ 64 - 1)))
  AreCopied-last left now now' partial front old new new' m n before block at_end sent same wrote_sent =
      let (others, later, wrote, counted) = subst (λ l. WritesEach end write P l new new' n) same wrote_sent in
      IfSome-all_read left now' ((before.whole ++ front) ++ []) (read_all left now now' before.whole partial front []
      before.read block) at_end
      (λ bytes. WritesEach end write P bytes old new' (min (m + n) (2 ^ 64 - 1)))
      (subst (λ bytes. WritesEach end write P bytes old new' (min (m + n) (2 ^ 64 - 1))) (sym (append-nil (before.whole ++ front))) (
        before.kept ++ others,
        kept_both before.whole front before.kept others before.ended before.are later,
        subst (Appends old new') (sym (written-append before.kept others)) (Appends-trans old new new' _ _ before.wrote wrote),
        counted_both before.kept others m n before.counted counted,
      ))

  -- what was written is the whole records that P keeps
  pub AreCopied-whole : (left now now' : Option (List ℕ)) (partial : List ℕ) (old new : Option (List ℕ)) (count : ℕ)
      → AreCopied left now partial old new count → Keeps now now'
      → (whole : List ℕ) × ((rest : List ℕ) × Consumes left now' (whole ++ rest) × AreWhole end whole × HasNoEnd end rest
      × ((kept : List (List ℕ)) × AreKept P (records_of end whole) kept × Appends old new (flat_map write kept)))
  AreCopied-whole left now now' partial old new count before same = (
    before.whole,
    (
      partial,
      Consumes-kept left now now' (before.whole ++ partial) before.read same,
      before.ended,
      before.none,
      (before.kept, before.are, before.wrote),
    ),
  )

  module _ (decided : (one : List ℕ) → P one ⊎ (¬ (P one))) where
    -- they are the first ones
    pub some_by_whole : (left now : Option (List ℕ)) (whole partial : List ℕ) (kept : List (List ℕ)) (old new : Option
        (List ℕ)) → Consumes left now (whole ++ partial)
        → AreWhole end whole → AreKept P (records_of end whole) kept → Appends old new (flat_map write kept)
        → IfSome left (λ bytes. WritesSomeOf end write P bytes old new)
    some_by_whole None now whole partial kept old new read ended are wrote = tt
    some_by_whole (Some bytes) None whole partial kept old new read ended are wrote = absurd read
    some_by_whole (Some bytes) (Some more) whole partial kept old new read ended are wrote =
        let (others, later) = AreKept-exists P decided (records_of end (partial ++ more)) in (
          kept ++ others,
          subst (λ l. AreKept P (records_of end l) (kept ++ others)) (sym (read ∙ append_assoc whole partial more))
              (kept_both whole (partial ++ more) kept others ended are later),
          (length kept, subst (λ l. Appends old new (flat_map write l)) (sym (take-append_seam kept others)) wrote),
        )

    pub AreCopied-some : (left now : Option (List ℕ)) (partial : List ℕ) (old new : Option (List ℕ)) (count : ℕ)
        → AreCopied left now partial old new count
        → IfSome left (λ bytes. WritesSomeOf end write P bytes old new)
    AreCopied-some left now partial old new count before =
        some_by_whole left now before.whole partial before.kept old new before.read before.ended before.are before.wrote

    -- the records that P keeps, of all that was read and is left
    record AllKept (bytes whole front after : List ℕ) (kept : List (List ℕ)) : Type 0 where
      of_front : List (List ℕ)
      of_after : List (List ℕ)
      in_front : AreKept P (records_of end front) of_front
      in_all : AreKept P (records_of end bytes) (kept ++ (of_front ++ of_after))

    all_kept : (bytes whole front after : List ℕ) (kept : List (List ℕ)) → AreWhole end whole → AreKept P (records_of end whole) kept
        → records_of end (front ++ after) ≡ records_of end front ++ records_of end after → bytes ≡ whole ++
        (front ++ after) → AllKept bytes whole front after kept
    all_kept bytes whole front after kept ended are apart is =
        let (of_front, in_front) = AreKept-exists P decided (records_of end front) in
        let (of_after, in_after) = AreKept-exists P decided (records_of end after) in
        let later : AreKept P (records_of end (front ++ after)) (of_front ++ of_after) =
        subst (λ l. AreKept P l (of_front ++ of_after)) (sym apart) (AreKept-append P (records_of end front)
        (records_of end after) of_front of_after in_front in_after) in
        record {
          of_front = of_front;
          of_after = of_after;
          in_front = in_front;
          in_all = subst (λ l. AreKept P (records_of end l) (kept ++ (of_front ++ of_after))) (sym is) (kept_both whole
              (front ++ after) kept (of_front ++ of_after) ended are later);
        }

    -- the first of the block's records were written, too
    first_records : (bytes whole front after : List ℕ) (old new new' : Option (List ℕ)) (kept : List (List ℕ))
        → AllKept bytes whole front after kept
        → Appends old new (flat_map write kept) → WritesFrontRecords end write P front new new' → WritesSomeOf end write P bytes old new'
    first_records bytes whole front after old new new' kept all wrote fronts =
        let (n, appended) = fronts all.of_front all.in_front in
        let some = take n all.of_front in
        let split : kept ++ (all.of_front ++ all.of_after) ≡ (kept ++ some) ++ (drop n all.of_front ++ all.of_after) =
        ap (λ l. kept ++ (l ++ all.of_after)) (sym (take-append-drop n all.of_front)) ∙ ap (λ l. kept ++ l)
        (append_assoc some (drop n all.of_front) all.of_after)
        ∙ sym (append_assoc kept some (drop n all.of_front ++ all.of_after)) in
        let first : take (length (kept ++ some)) (kept ++ (all.of_front ++ all.of_after)) ≡ kept ++ some =
        ap (take (length (kept ++ some))) split ∙ take-append_seam (kept ++ some) (drop n all.of_front ++ all.of_after) in (
          kept ++ (all.of_front ++ all.of_after),
          all.in_all,
          (
            length (kept ++ some),
            subst (Appends old new') (sym (ap (flat_map write) first ∙ written-append kept
                some)) (Appends-trans old new new' _ _ wrote appended),
          ),
        )

    -- the first of the block's bytes were written, too
    first_bytes : (bytes whole front after : List ℕ) (old new new' : Option (List ℕ)) (kept : List (List ℕ))
        → AllKept bytes whole front after kept
        → Appends old new (flat_map write kept) → WritesFrontBytes end write P front new new' → WritesBytesOf end write P bytes old new'
    first_bytes bytes whole front after old new new' kept all wrote fronts =
        let (n, appended) = fronts all.of_front all.in_front in
        let split : flat_map write (kept ++ (all.of_front ++ all.of_after)) ≡ flat_map write kept ++
        (flat_map write all.of_front ++ flat_map write all.of_after) =
        written-append kept (all.of_front ++ all.of_after) ∙ ap (λ l. flat_map write kept ++ l)
        (written-append all.of_front all.of_after) in (
          kept ++ (all.of_front ++ all.of_after),
          all.in_all,
          cut_after end write old new new' (flat_map write (kept ++ (all.of_front ++ all.of_after))) (flat_map write kept)
              (flat_map write all.of_front) (flat_map write all.of_after) n split wrote appended,
        )

    in_input : (left now' : Option (List ℕ)) (whole front rest : List ℕ) (kept : List (List ℕ)) → Consumes left now'
        ((whole ++ front) ++ rest)
        → AreWhole end whole → AreKept P (records_of end whole) kept
        → IfSome now' (λ more. records_of end (front ++ (rest ++ more)) ≡ records_of end front ++ records_of end (rest ++ more))
        → (Q : List ℕ → Type 0) → ((bytes after : List ℕ) → AllKept bytes whole front after kept → Q bytes) → IfSome left Q
    in_input None now' whole front rest kept read ended are apart Q each = tt
    in_input (Some bytes) None whole front rest kept read ended are apart Q each = absurd read
    in_input (Some bytes) (Some more) whole front rest kept read ended are apart Q each =
        each bytes (rest ++ more) (all_kept bytes whole front (rest ++ more) kept ended are apart (read ∙ append_assoc
        (whole ++ front) rest more ∙ append_assoc whole front (rest ++ more)))

    module _ (left now now' : Option (List ℕ)) (partial front rest : List ℕ) (old new new' : Option (List ℕ)) (count : ℕ) where
      -- some of the block's records were written, too
      pub AreCopied-some_more : AreCopied left now partial old new count → IsBlock now now' partial front rest →
          (sent : List ℕ) → sent ≡ front → WritesFrontRecords end write P sent new new'
          → IfSome left (λ bytes. WritesSomeOf end write P bytes old new')
      AreCopied-some_more before block sent same fronts =
          in_input left now' before.whole front rest before.kept (read_all left now now' before.whole partial front
          rest before.read block) before.ended before.are block.apart
          (λ bytes. WritesSomeOf end write P bytes old new')
          (λ bytes after all. first_records bytes before.whole front after old new new' before.kept all before.wrote
          (subst (λ l. WritesFrontRecords end write P l new new') same fronts))

      -- some of the block's bytes were written, too
      pub AreCopied-bytes_more : AreCopied left now partial old new count → IsBlock now now' partial front rest →
          (sent : List ℕ) → sent ≡ front → WritesFrontBytes end write P sent new new'
          → IfSome left (λ bytes. WritesBytesOf end write P bytes old new')
      AreCopied-bytes_more before block sent same fronts =
          in_input left now' before.whole front rest before.kept (read_all left now now' before.whole partial front
          rest before.read block) before.ended before.are block.apart
          (λ bytes. WritesBytesOf end write P bytes old new')
          (λ bytes after all. first_bytes bytes before.whole front after old new new' before.kept all before.wrote
          (subst (λ l. WritesFrontBytes end write P l new new') same fronts))
