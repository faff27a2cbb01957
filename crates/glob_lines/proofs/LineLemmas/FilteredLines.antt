-- The records of an input up to some place, filtered: what was written of them, and what waits in the output.
use Rattle.std.proofs.Common.{◌≡◌, ℕ, ◌+◌, ◌-◌, ◌^◌, inl, inr, min, List, [], ◌∷◌, ◌++◌, Option, length, take, drop}
use Rattle.std.proofs.Common.{refl, sym, ap, ◌∙◌, subst, append-nil, append_assoc, take-append-drop, length-append}
use Rattle.std.proofs.Common.{arith}
use lib.Seq.{take-append_seam}
use Rattle.std.specs.Prelude.{Bool, true, false, if◌then◌else◌}
use Rattle.std.proofs.lemmas.Bool.{false≢true}
use Rattle.std.specs.List.{flat_map}
use Rattle.std.specs.Io.KnownBytes.{Appends, Keeps}
use Rattle.std.proofs.KnownBytes.{Appends-nil, Appends-trans, Appends-kept, Keeps-refl}
use Rattle.std.proofs.lemmas.List.Concat.{flat_map-append}
use Rattle.glob_lines.specs.Lines.{records_of, AreKept}
use Rattle.glob_lines.specs.Private.Gathering.{IsGathered}
use Rattle.glob_lines.proofs.LineLemmas.KnownMoves.{Appends-cut}
use Rattle.glob_lines.proofs.LineLemmas.KeptLines.{AreKept-push, AreKept-pass, AreKept-front}

-- something was added to the output, or nothing
pub something_added : (b : Bool) (before after more : List ℕ) → after ≡ before ++ (if b then more else []) → b ≡ true →
    after ≡ before ++ more
something_added true before after more is e = is
something_added false before after more is e = absurd (false≢true e)

pub nothing_added : (b : Bool) (before after more : List ℕ) → after ≡ before ++ (if b then more else []) → b ≡ false → after ≡ before
nothing_added true before after more is e = absurd (false≢true (sym e))
nothing_added false before after more is e = is ∙ append-nil before

module _ (end : ℕ) (write : List ℕ → List ℕ) where
  -- The records of the input before `rest` were seen. Of those that P keeps, the first were written, and the others
  -- wait in the output.
  pub record AreFiltered (P : List ℕ → Type 0) (input rest output : List ℕ) (old new : Option (List ℕ)) (count : ℕ) : Type 0 where
    pub seen : List (List ℕ)
    pub written : List (List ℕ)
    pub waiting : List (List ℕ)
    pub split : records_of end input ≡ seen ++ records_of end rest
    pub kept : AreKept P seen (written ++ waiting)
    pub moved : Appends old new (flat_map write written)
    pub held : output ≡ flat_map write waiting
    pub counted : count ≡ min (length (written ++ waiting)) (2 ^ 64 - 1)

  -- no record was seen
  pub AreFiltered-none : (P : List ℕ → Type 0) (input : List ℕ) (old : Option (List ℕ)) → AreFiltered P input input [] old old 0
  AreFiltered-none P input old = record {
    seen = [];
    written = [];
    waiting = [];
    split = refl;
    kept = refl;
    moved = Appends-nil old;
    held = refl;
    counted = refl;
  }

  one_more : (records seen : List (List ℕ)) (rest after one : List ℕ) → records ≡ seen ++ records_of end rest
      → records_of end rest ≡ one ∷ records_of end after
      → records ≡ (seen ++ one ∷ []) ++ records_of end after
  one_more records seen rest after one split first = split ∙ ap (λ l. seen ++ l) first ∙ sym (append_assoc seen
      (one ∷ []) (records_of end after))

  -- one more record, which is not kept
  pub AreFiltered-pass : (P : List ℕ → Type 0) (input rest after one output : List ℕ) (old new : Option (List ℕ)) (count : ℕ)
      → AreFiltered P input rest output old new count → records_of end rest ≡ one ∷ records_of end after → ¬ (P one)
      → AreFiltered P input after output old new count
  AreFiltered-pass P input rest after one output old new count before first fails = record {
    seen = before.seen ++ one ∷ [];
    written = before.written;
    waiting = before.waiting;
    split = one_more (records_of end input) before.seen rest after one before.split first;
    kept = AreKept-pass P before.seen (before.written ++ before.waiting) one before.kept fails;
    moved = before.moved;
    held = before.held;
    counted = before.counted;
  }

  written-push : (records : List (List ℕ)) (one : List ℕ) → flat_map write (records ++ one ∷ []) ≡ flat_map write
      records ++ write one
  written-push records one = flat_map-append write records (one ∷ []) ∙ ap
      (λ l. flat_map write records ++ l) (append-nil (write one))

  written-gathered : (written waiting : List (List ℕ)) (one output : List ℕ) → output ≡ flat_map write waiting
      → flat_map write ((written ++ waiting) ++ one ∷ []) ≡ flat_map write written ++ (output ++ write one)
  written-gathered written waiting one output held =
      written-push (written ++ waiting) one
      ∙ ap (λ l. l ++ write one) (flat_map-append write written waiting ∙ ap
      (λ l. flat_map write written ++ l) (sym held))
      ∙ append_assoc (flat_map write written) output (write one)

  counted_more : (records : List (List ℕ)) (one : List ℕ) (count : ℕ) → count ≡ min (length records) (2 ^ 64 - 1)
      → min (count + 1) (2 ^ 64 - 1) ≡ min (length (records ++ one ∷ [])) (2 ^ 64 - 1)
  counted_more records one count is = omega (arith, length-append records (one ∷ []))

  -- one more record, which is kept
  pub AreFiltered-keep : (P : List ℕ → Type 0) (input rest after one output output' : List ℕ) (old new new' : Option (List ℕ)) (count : ℕ)
      → AreFiltered P input rest output old new count → records_of end rest ≡ one ∷ records_of end after → P one
      → IsGathered (output ++ write one) output' new new'
      → AreFiltered P input after output' old new' (min (count + 1) (2 ^ 64 - 1))
  AreFiltered-keep P input rest after one output output' old new new' count before first holds (inl (same, is)) = record {
    seen = before.seen ++ one ∷ [];
    written = before.written;
    waiting = before.waiting ++ one ∷ [];
    split = one_more (records_of end input) before.seen rest after one before.split first;
    kept = subst (AreKept P (before.seen ++ one ∷ [])) (append_assoc before.written before.waiting (one ∷ []))
        (AreKept-push P before.seen (before.written ++ before.waiting) one before.kept holds);
    moved = Appends-kept old new new' (flat_map write before.written) before.moved same;
    held = is ∙ ap (λ l. l ++ write one) before.held ∙ sym (written-push before.waiting one);
    counted = counted_more (before.written ++ before.waiting) one count before.counted
        ∙ ap (λ l. min (length l) (2 ^ 64 - 1)) (append_assoc before.written before.waiting (one ∷ []));
  }
  AreFiltered-keep P input rest after one output output' old new new' count before first holds (inr (appended, is)) = record {
    seen = before.seen ++ one ∷ [];
    written = (before.written ++ before.waiting) ++ one ∷ [];
    waiting = [];
    split = one_more (records_of end input) before.seen rest after one before.split first;
    kept = subst (AreKept P (before.seen ++ one ∷ [])) (sym (append-nil ((before.written ++ before.waiting) ++ one ∷ [])))
        (AreKept-push P before.seen (before.written ++ before.waiting) one before.kept holds);
    moved = subst (Appends old new') (sym (written-gathered before.written before.waiting one output before.held))
        (Appends-trans old new new' (flat_map write before.written) (output ++ write one) before.moved appended);
    held = is;
    counted = counted_more (before.written ++ before.waiting) one count before.counted
        ∙ ap (λ l. min (length l) (2 ^ 64 - 1)) (sym (append-nil ((before.written ++ before.waiting) ++ one ∷ [])));
  }

  -- the same for an output that gained something, or nothing
  pub AreFiltered-kept : (P : List ℕ → Type 0) (input rest after one output sent output' : List ℕ)
      (old new new' : Option (List ℕ)) (count : ℕ)
      → AreFiltered P input rest output old new count → records_of end rest ≡ one ∷ records_of end after → P one
      → sent ≡ output ++ write one → IsGathered sent output' new new'
      → AreFiltered P input after output' old new' (min (count + 1) (2 ^ 64 - 1))
  AreFiltered-kept P input rest after one output sent output' old new new' count before first holds more gathered =
      AreFiltered-keep P input rest after one output output' old new new' count before first holds
      (subst (λ l. IsGathered l output' new new') more gathered)

  pub AreFiltered-passed : (P : List ℕ → Type 0) (input rest after one output sent : List ℕ) (old new : Option (List ℕ)) (count : ℕ)
      → AreFiltered P input rest output old new count → records_of end rest ≡ one ∷ records_of end after → ¬ (P one)
      → sent ≡ output → AreFiltered P input after sent old new count
  AreFiltered-passed P input rest after one output sent old new count before first fails same =
      subst (λ l. AreFiltered P input after l old new count) (sym same)
      (AreFiltered-pass P input rest after one output old new count before first fails)

  -- what was seen is kept first
  kept_first : (P : List ℕ → Type 0) (input rest : List ℕ) (seen front kept : List (List ℕ)) → records_of end input ≡
      seen ++ records_of end rest
      → AreKept P seen front → AreKept P (records_of end input) kept → (others : List (List ℕ)) ×
      (kept ≡ front ++ others) × AreKept P (records_of end rest) others
  kept_first P input rest seen front kept split are all = AreKept-front P seen (records_of end rest) front kept are
      (subst (λ l. AreKept P l kept) split all)

  -- Nothing more was written: whole records were.
  pub AreFiltered-whole : (P : List ℕ → Type 0) (input rest output : List ℕ) (old new new' : Option (List ℕ)) (count : ℕ)
      → AreFiltered P input rest output old new count → Keeps new new' → (kept : List (List ℕ)) → AreKept P (records_of end input) kept
      → (n : ℕ) × Appends old new' (flat_map write (take n kept))
  AreFiltered-whole P input rest output old new new' count done same kept all =
      let (others, split, _) = kept_first P input rest done.seen (done.written ++ done.waiting) kept done.split done.kept all in
      let front : take (length done.written) kept ≡ done.written =
      ap (take (length done.written)) (split ∙ append_assoc done.written done.waiting others) ∙ take-append_seam
      done.written (done.waiting ++ others) in (
        length done.written,
        subst (λ l. Appends old new' (flat_map write l)) (sym front) (Appends-kept old new new'
            (flat_map write done.written) done.moved same),
      )

  -- some of the bytes that come next were written
  pub cut_after : (old new new' : Option (List ℕ)) (all done next rest : List ℕ) (n : ℕ) → all ≡ done ++ (next ++ rest)
      → Appends old new done → Appends new new' (take n next)
      → (m : ℕ) × Appends old new' (take m all)
  cut_after old new new' all done next rest n split before appended =
      Appends-cut old new' new' all (done ++ take n next) (drop n next ++ rest)
      (split ∙ ap (λ l. done ++ (l ++ rest)) (sym (take-append-drop n next)) ∙ ap (λ l. done ++ l)
      (append_assoc (take n next) (drop n next) rest)
      ∙ sym (append_assoc done (take n next) (drop n next ++ rest)))
      (Appends-trans old new new' done (take n next) before appended) (Keeps-refl new')

  written_first : (written waiting others kept : List (List ℕ)) (output : List ℕ) → kept ≡ (written ++ waiting) ++
      others → output ≡ flat_map write waiting
      → flat_map write kept ≡ flat_map write written ++ (output ++ flat_map write others)
  written_first written waiting others kept output split held =
      ap (flat_map write) (split ∙ append_assoc written waiting others)
      ∙ flat_map-append write written (waiting ++ others)
      ∙ ap (λ l. flat_map write written ++ l) (flat_map-append write waiting others ∙ ap
      (λ l. l ++ flat_map write others) (sym held))

  -- some of the output was written
  pub AreFiltered-cut : (P : List ℕ → Type 0) (input rest output sent : List ℕ) (old new new' : Option (List ℕ)) (count n : ℕ)
      → AreFiltered P input rest output old new count → sent ≡ output → Appends new new' (take n sent) →
      (kept : List (List ℕ)) → AreKept P (records_of end input) kept
      → (m : ℕ) × Appends old new' (take m (flat_map write kept))
  AreFiltered-cut P input rest output sent old new new' count n done same appended kept all =
      let (others, split, _) = kept_first P input rest done.seen (done.written ++ done.waiting) kept done.split done.kept all in
      cut_after old new new' (flat_map write kept) (flat_map write done.written) output (flat_map write others) n
      (written_first done.written done.waiting others kept output split done.held) done.moved
      (subst (λ l. Appends new new' (take n l)) same appended)

  -- some of the output and of the next record was written
  pub AreFiltered-cut_more : (P : List ℕ → Type 0) (input rest after one output sent : List ℕ)
      (old new new' : Option (List ℕ)) (count n : ℕ)
      → AreFiltered P input rest output old new count → records_of end rest ≡ one ∷ records_of end after → P one
      → sent ≡ output ++ write one → Appends new new' (take n sent)
      → (kept : List (List ℕ)) → AreKept P (records_of end input) kept → (m : ℕ) × Appends old new' (take m (flat_map write kept))
  AreFiltered-cut_more P input rest after one output sent old new new' count n done first holds same appended =
      let kept : Keeps new new = Keeps-refl new in
      let more = AreFiltered-keep P input rest after one output (output ++ write one) old new new count done
      first holds (inl (kept, refl)) in
      AreFiltered-cut P input after (output ++ write one) sent old new new' _ n more same appended
