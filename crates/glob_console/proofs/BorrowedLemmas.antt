-- What was written by a writer behind a reference.
use Rattle.std.proofs.Common.{◌≡◌, ℕ, Option, None, Some, List, ◌∷◌, sym, ap, subst}
use Rattle.std.specs.Prelude.{option_map}
use Rattle.std.specs.Io.KnownBytes.{Appends}
use Rattle.glob_console.specs.declared.borrowed.Borrowed.{Borrowed}

same_head : {x y : ℕ} {xs ys : List ℕ} → x ∷ xs ≡ y ∷ ys → x ≡ y
same_head e = cc

same_tail : {x y : ℕ} {xs ys : List ℕ} → x ∷ xs ≡ y ∷ ys → xs ≡ ys
same_tail e = cc

-- what contracts see of a writer behind a reference
abbrev borrowed_bytes : {W : Type 0} → (W → Option (List ℕ)) → Borrowed W → Option (List ℕ)
borrowed_bytes held borrowed = option_map (λ bytes. borrowed.writer.ghost_name ∷ bytes) (held borrowed.writer.now)

-- the same reference came back, if the bytes are known
Appends-named : (old new given : Option (List ℕ)) (n m : ℕ) (bytes : List ℕ) → Appends (option_map (λ l. n ∷ l) old)
    (option_map (λ l. m ∷ l) new) bytes → (n ≡ m → given ≡ new) → Appends old given bytes
Appends-named None new given n m bytes wrote same = tt
Appends-named (Some xs) None given n m bytes wrote same = absurd wrote
Appends-named (Some xs) (Some ys) given n m bytes wrote same =
    subst (λ l. Appends (Some xs) l bytes) (sym (same (sym (same_head wrote)))) (same_tail wrote)

-- `borrowed` is what was borrowed, `first` and `last` are what the call saw and left, and `back` is what came back. If
-- the bytes are known, `back` is the reference that was borrowed.
module _ {W : Type 0} (held : W → Option (List ℕ)) (borrowed first last back : Borrowed W) (given : W) where
  -- What the call appended was appended behind the reference.
  pub Appends-borrowed : first ≡ borrowed → back ≡ last → (borrowed.writer.ghost_name ≡ back.writer.ghost_name → given ≡ back.writer.now)
      → (bytes : List ℕ) → Appends (borrowed_bytes held first) (borrowed_bytes held last) bytes → Appends
      (held borrowed.writer.now) (held given) bytes
  Appends-borrowed start end same bytes wrote =
      let from_borrowed = subst (λ x. Appends (borrowed_bytes held x) (borrowed_bytes held last) bytes) start wrote in
      let to_back = subst (λ x. Appends (borrowed_bytes held borrowed) (borrowed_bytes held x) bytes) (sym end) from_borrowed in
      Appends-named (held borrowed.writer.now) (held back.writer.now) (held given) borrowed.writer.ghost_name
      back.writer.ghost_name bytes to_back (λ e. ap held (same e))
