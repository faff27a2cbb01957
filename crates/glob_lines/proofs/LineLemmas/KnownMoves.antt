-- What consecutive reads and writes do to known bytes.
use Rattle.std.proofs.Common.{◌≡◌, ℕ, ◌+◌, List, ◌++◌, Option, Some, None, length, take, drop, sym, ap, append-nil, ◌∙◌}
use Rattle.std.proofs.Common.{subst, append_assoc, ◌-◌, Result, Ok, Err, OnErr}
use Rattle.std.proofs.lemmas.List.{take-append-drop, take_rest}
use lib.Seq.{take-add, take-append_seam}
use Rattle.std.specs.Io.KnownBytes.{Appends, Keeps, Consumes, IsAtEnd}
use Rattle.std.specs.Prelude.{IfSome}
use Rattle.std.proofs.KnownBytes.{Appends-trans, Appends-kept, Consumes-trans}

-- a read put n bytes after the filled ones
pub Consumes-filled : (a b c : Option (List ℕ)) (xs ys : List ℕ) (filled n : ℕ) → take filled ys ≡ take filled xs
    → Consumes a b (take filled xs) → Consumes b c (take n (drop filled ys)) → Consumes a c (take (filled + n) ys)
Consumes-filled a b c xs ys filled n front before read =
    subst (Consumes a c) (ap (λ l. l ++ take n (drop filled ys)) (sym front) ∙ sym (take-add filled n ys))
    (Consumes-trans a b c _ _ before read)

-- what was written is a beginning of the bytes
pub Appends-front : (a b : Option (List ℕ)) (all done rest : List ℕ) → all ≡ done ++ rest → Appends a b done → (n : ℕ)
    × Appends a b (take n all)
Appends-front a b all done rest split appended =
    (length done, subst (Appends a b) (sym (ap (take (length done)) split ∙ take-append_seam done rest)) appended)

-- some of the bytes were written, and then none
pub Appends-cut : (a b c : Option (List ℕ)) (all done rest : List ℕ) → all ≡ done ++ rest → Appends a b done
    → Keeps b c → (n : ℕ) × Appends a c (take n all)
Appends-cut a b c all done rest split appended kept = Appends-front a c all done rest split (Appends-kept a b c done appended kept)

-- one more write took n of the bytes that were left
pub Appends-more : (a b c : Option (List ℕ)) (all done rest : List ℕ) (n : ℕ) → all ≡ done ++ rest → Appends a b done
    → Appends b c (take n rest)
    → (more : List ℕ) × (all ≡ more ++ take (length rest - n) (drop n rest)) × Appends a c more
Appends-more a b c all done rest n split before appended = (
  done ++ take n rest,
  split ∙ ap (λ l. done ++ l) (sym (take-append-drop n rest) ∙ ap (λ l. take n rest ++ l) (sym (take_rest rest n)))
      ∙ sym (append_assoc done (take n rest) _),
  Appends-trans a b c done (take n rest) before appended,
)

-- what holds for the bytes read to the end holds for the bytes that were left, if they are known
pub IfSome-all_read : (left rest : Option (List ℕ)) (bytes : List ℕ) → Consumes left rest bytes → IsAtEnd rest →
    (P : List ℕ → Type 0) → P bytes → IfSome left P
IfSome-all_read None rest bytes read end P holds = tt
IfSome-all_read (Some all) None bytes read end P holds = absurd read
IfSome-all_read (Some all) (Some more) bytes read end P holds = subst P (sym (read ∙ ap (λ l. bytes ++ l) end ∙ append-nil bytes)) holds

-- a fact holds at a fault too
pub OnErr-from : {T E : Type 0} (r : Result T E) {P : Type 0} → P → OnErr r P
OnErr-from (Ok x) p = tt
OnErr-from (Err e) p = p
