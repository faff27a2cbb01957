-- Writers that accepted the first bytes of some bytes.
use Rattle.std.proofs.Common.{◌≡◌, ℕ, Option, None, Some, List, [], ◌++◌, inr, take, drop, length, Result, Ok, Err}
use Rattle.std.proofs.Common.{OnErr, OnOk, sym, ap, subst, ◌∙◌, append-nil, append_assoc}
use Rattle.std.proofs.lemmas.List.{take-append-drop}
use lib.Seq.{take-append_seam}
use Rattle.std.specs.Io.KnownBytes.{Appends, Keeps}
use Rattle.std.proofs.KnownBytes.{Appends-trans, Appends-kept, Keeps-refl}
use Rattle.glob_lines.specs.Lines.{AppendsFront}
use Rattle.glob_console.specs.Outcomes.{WritesText}
use Rattle.glob_console.specs.Private.Writing.{Queues}

-- what was written is a prefix of the bytes
pub AppendsFront-front : (old new : Option (List ℕ)) (bytes front rest : List ℕ) → bytes ≡ front ++ rest
    → Appends old new front → AppendsFront old new bytes
AppendsFront-front old new bytes front rest split wrote =
    (length front, subst (Appends old new) (sym (ap (take (length front)) split ∙ take-append_seam front rest)) wrote)

-- the same with what was then written of the bytes that follow
pub AppendsFront-more : (a b c : Option (List ℕ)) (all done bytes rest : List ℕ) → all ≡ done ++ (bytes ++ rest)
    → Appends a b done → AppendsFront b c bytes → AppendsFront a c all
AppendsFront-more a b c all done bytes rest split before (n, wrote) =
    AppendsFront-front a c all (done ++ take n bytes) (drop n bytes ++ rest)
    (split ∙ ap (λ l. done ++ l) (ap (λ l. l ++ rest) (sym (take-append-drop n bytes)) ∙ append_assoc (take n bytes)
    (drop n bytes) rest) ∙ sym (append_assoc done (take n bytes) (drop n bytes ++ rest)))
    (Appends-trans a b c done (take n bytes) before wrote)

-- some of the bytes were written, and then none
pub AppendsFront-kept : (a b c : Option (List ℕ)) (all done rest : List ℕ) → all ≡ done ++ rest → Appends a b done
    → Keeps b c → AppendsFront a c all
AppendsFront-kept a b c all done rest split before same = AppendsFront-front a c all done rest split (Appends-kept a b c done before same)

-- a prefix of the bytes is a prefix of more bytes
pub AppendsFront-longer : (old new : Option (List ℕ)) (bytes rest : List ℕ) → AppendsFront old new bytes → AppendsFront
    old new (bytes ++ rest)
AppendsFront-longer old new bytes rest (n, wrote) =
    AppendsFront-front old new (bytes ++ rest) (take n bytes) (drop n bytes ++ rest) (ap (λ l. l ++ rest)
    (sym (take-append-drop n bytes)) ∙ append_assoc (take n bytes) (drop n bytes) rest) wrote

-- whether or not all bytes were written, the first ones were
pub AppendsFront-either : {T E : Type 0} (r : Result T E) (old new : Option (List ℕ)) (bytes : List ℕ) → OnOk r
    (Appends old new bytes) → OnErr r (AppendsFront old new bytes) → AppendsFront old new bytes
AppendsFront-either (Ok x) old new bytes all some = AppendsFront-front old new bytes bytes [] (sym (append-nil bytes)) all
AppendsFront-either (Err e) old new bytes all some = some

-- nothing was written
pub AppendsFront-none : (old new : Option (List ℕ)) (bytes : List ℕ) → Keeps old new → AppendsFront old new bytes
AppendsFront-none None new bytes same = (0, tt)
AppendsFront-none (Some xs) None bytes same = absurd same
AppendsFront-none (Some xs) (Some ys) bytes same = (0, same ∙ sym (append-nil xs))

-- a fault before the text was written
pub text_at_fault : (text : List ℕ) (known : Option (List ℕ)) (status : ℕ) → status ≡ 2 → WritesText text known known status
unfolding WritesText
text_at_fault text known status is = inr (is, AppendsFront-none known known text (Keeps-refl known))

-- a fact that always holds holds at a fault
pub OnErr-from : {T E : Type 0} (r : Result T E) {P : Type 0} → P → OnErr r P
OnErr-from (Ok x) p = tt
OnErr-from (Err e) p = p

-- a fact that always holds holds if there is no fault
pub OnOk-from : {T E : Type 0} (r : Result T E) {P : Type 0} → P → OnOk r P
OnOk-from (Ok x) p = p
OnOk-from (Err e) p = tt

-- more bytes follow those that wait
pub Queues-trans : (a b c : Option (List ℕ)) (first mid last bs cs : List ℕ) → Queues a first b mid bs → Queues b mid c
    last cs → Queues a first c last (bs ++ cs)
Queues-trans a b c first mid last bs cs (p, ab, e) (q, bc, f) = (
  p ++ q,
  Appends-trans a b c p q ab bc,
  sym (append_assoc first bs cs) ∙ ap (λ l. l ++ cs) e ∙ append_assoc p mid cs ∙ ap (λ l. p ++ l) f ∙ sym (append_assoc p q last),
)

-- if nothing waits any more, all bytes were written
pub Queues-all : (a b : Option (List ℕ)) (bs : List ℕ) → Queues a [] b [] bs → Appends a b bs
Queues-all a b bs (p, ab, e) = subst (Appends a b) (sym (e ∙ append-nil p)) ab

-- some of the waiting bytes were written
pub Queues-some : (a b c : Option (List ℕ)) (all waiting bs rest : List ℕ) → all ≡ bs ++ rest → Queues a [] b waiting
    bs → AppendsFront b c waiting → AppendsFront a c all
Queues-some a b c all waiting bs rest split (p, ab, e) some =
    AppendsFront-more a b c all p waiting rest (split ∙ ap (λ l. l ++ rest) e ∙ append_assoc p waiting rest) ab some

-- some of the waiting bytes and of the bytes after them were written
pub Queues-more : (a b c : Option (List ℕ)) (all waiting bs cs rest : List ℕ) → all ≡ (bs ++ cs) ++ rest
    → Queues a [] b waiting bs → AppendsFront b c (waiting ++ cs) → AppendsFront a c all
Queues-more a b c all waiting bs cs rest split (p, ab, e) some =
    AppendsFront-more a b c all p (waiting ++ cs) rest
    (split ∙ ap (λ l. (l ++ cs) ++ rest) e ∙ ap (λ l. l ++ rest) (append_assoc p waiting cs) ∙ append_assoc p (waiting ++ cs) rest) ab some
