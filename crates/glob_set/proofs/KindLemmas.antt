-- Collecting the kinds of keys.
use Rattle.std.proofs.Common.{◌≡◌, ℕ, ◌≤◌, Option, Some, None, IfSome, IsTrue, bit_or, sym, ap, subst, ◌∙◌, arith}
use Rattle.std.specs.Int.Bits.{or_self}
use Rattle.std.proofs.lemmas.Nat.{or_comm}
use Rattle.glob_set.specs.declared.key.Key.{Key}
use Rattle.glob_set.specs.declared.key.Key.TheVariants.{Component, Beginning, Ending, Extension}
use Rattle.glob_set.specs.declared.key.Kinds.{Kinds}
use Rattle.glob_set.specs.Private.Keys.{HasKind, HasLength, KeepsKinds, length_bit}
use Rattle.glob_set.proofs.PairLemmas.{or_assoc}

pub kind_kept : (old new : Kinds) (key : Option Key) → KeepsKinds old new → IfSome key (HasKind old) → IfSome key (HasKind new)
unfolding KeepsKinds
kind_kept old new None kept has = tt
kind_kept old new (Some key) kept has = kept key has

-- each of the first lengths is among the second
abbrev pub KeepsLengths : (old new : ℕ) → Type 0
KeepsLengths old new = (len : ℕ) → HasLength old len → HasLength new len

pub lengths_more : (old more : ℕ) → KeepsLengths old (bit_or old more)
lengths_more old more len is =
    or_assoc old more (length_bit len) ∙ ap (bit_or old) (or_comm more (length_bit len)) ∙ sym (or_assoc old (length_bit len) more)
    ∙ ap (λ lengths. bit_or lengths more) is

pub length_added : (old bit len : ℕ) → bit ≡ length_bit len → HasLength (bit_or old bit) len
length_added old bit len is = subst (λ more. HasLength (bit_or old more) len) (sym is) (or_assoc old (length_bit len)
    (length_bit len) ∙ ap (bit_or old) (or_self (length_bit len)))

pub kinds_grow : (old new : Kinds) → (IsTrue old.components → IsTrue new.components) → KeepsLengths old.beginnings
    new.beginnings → KeepsLengths old.endings new.endings
    → old.longest ≤ new.longest → KeepsKinds old new
unfolding KeepsKinds
kinds_grow old new components beginnings endings longer = of
  where
    of : (key : Key) → HasKind old key → HasKind new key
    of (Component hash) has = components has
    of (Beginning hash len) (has, is) = (components has, beginnings len is)
    of (Ending hash len) (most, is) = (omega (arith, most, longer), endings len is)
    of (Extension hash len) most = omega (arith, most, longer)
