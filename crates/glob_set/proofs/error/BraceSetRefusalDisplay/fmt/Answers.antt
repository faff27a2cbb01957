use Rattle.std.proofs.Common.{◌≡◌, ℕ, List, ◌++◌, refl, sym, ap, ◌∙◌, append_assoc}
use Rattle.std.specs.Prelude.{codes, decimal}
use Rattle.std.proofs.lemmas.Grind.{put_two}
use Rattle.glob_pattern.specs.Words.{pattern_error_words}
use Rattle.glob_set.proofs.error.BraceSetRefusalDisplay.fmt.Goals as goal

-- five pieces and one more, in another order of joining
pieces : (a b c d e f : List ℕ) → a ++ (b ++ (c ++ (d ++ e))) ++ f ≡ a ++ b ++ c ++ d ++ e ++ f
pieces a b c d e f =
    ap (λ z. z ++ f) (sym (append_assoc (a ++ b ++ c) d e ∙ append_assoc (a ++ b) c (d ++ e) ∙ append_assoc a b (c ++ (d ++ e))))

pub returns-in_ok-write-in-Pattern-clause-writes : goal.returns-in_ok-write-in-Pattern-clause-writes
returns-in_ok-write-in-Pattern-clause-writes g c = rw c.in-Pattern.is (λ plain ok.
    let before = c.in_ok-write-in-Pattern.ensures.writes plain refl in
    let words = pattern_error_words c.in-Pattern.error in
    put_two g.W.Write.write_str_gives _ _ _ _ words _ before (c.fmt-in-Pattern.ensures.writes before.plain ok)
    (pieces (codes "pattern ") (decimal c.in-Pattern.number) (codes ", alternative ")
    (decimal c.in-Pattern.alternative) (codes ": ") words))
