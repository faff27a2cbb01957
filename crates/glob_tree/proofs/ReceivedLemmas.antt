-- What lookups received, at a path and above it.
use Rattle.std.proofs.Common.{◌≡◌, ◌++◌, ◌∷◌, [], true, inl, inr, List, Option, refl, ap, sym, ◌∙◌}
use Rattle.std.proofs.lemmas.List.{append_assoc}
use Rattle.glob_text.specs.Characters.{slash}
use Rattle.glob_text.specs.Text.{Text}
use Rattle.glob_tree.specs.Looks.{is_directory}
use Rattle.glob_tree.specs.Received.{IsAtOrAbove, IsLookReceived, ReceivesAtMost, ReceivesOnWay}
use Rattle.glob_tree.specs.Strays.{and_then, Grows}
use Rattle.glob_tree.specs.declared.tree.Look.{Look}
use Rattle.glob_tree.specs.declared.tree.Look.TheVariants as look
use Rattle.glob_tree.proofs.StraysLemmas.{and_then-nil}

-- at most one path is a list of paths
pub received_some : (path : Text) (old new : Option (List Text)) → ReceivesAtMost path old new → Grows old new
received_some path old new (inl same) = ([], same ∙ sym (and_then-nil old))
received_some path old new (inr more) = (path ∷ [], more)

-- what is above a path above another path is above the other path
pub above_trans : (a b c : Text) → IsAtOrAbove a b → IsAtOrAbove b c → IsAtOrAbove a c
above_trans a b c (inl s) (inl t) = inl (t ∙ s)
above_trans a b c (inl s) (inr (n, t)) = inr (n, t ∙ ap (λ x. x ++ slash ∷ n) s)
above_trans a b c (inr (n, s)) (inl t) = inr (n, t ∙ s)
above_trans a b c (inr (n, s)) (inr (m, t)) =
    inr (n ++ slash ∷ m, t ∙ ap (λ x. x ++ slash ∷ m) s ∙ append_assoc a (slash ∷ n) (slash ∷ m))

-- what was received at one path above is on the way
pub received_above : (above path : Text) (old mid new : Option (List Text)) → IsAtOrAbove above path → mid ≡ old
    → ReceivesAtMost above mid new → ReceivesOnWay path old new
received_above above path old mid new over same (inl is) = inl (is ∙ same)
received_above above path old mid new over same (inr is) = inr (above, over, is ∙ ap (λ o. and_then o (above ∷ [])) same)

-- what was received on a way above is on the way
pub received_below : (above path : Text) (old new : Option (List Text)) → IsAtOrAbove above path
    → ReceivesOnWay above old new → ReceivesOnWay path old new
received_below above path old new over (inl same) = inl same
received_below above path old new over (inr (at, on, more)) = inr (at, above_trans at above path on over, more)

-- a look at the end of a way on which nothing was received
pub received_looking : (path : Text) (seen : Look) (old mid new : Option (List Text)) → mid ≡ old
    → (is_directory seen ≡ true → new ≡ mid) → ReceivesAtMost path mid new → IsLookReceived path seen old new
received_looking path look.Dir old mid new same settled at = settled refl ∙ same
received_looking path look.Other old mid new same settled (inl is) = inl (is ∙ same)
received_looking path look.Other old mid new same settled (inr is) = inr (is ∙ ap (λ o. and_then o (path ∷ [])) same)
received_looking path look.Missing old mid new same settled at = received_above path path old mid new (inl refl) same at
