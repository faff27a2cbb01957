-- `**` under the separator rule takes whole names.
use Rattle.std.proofs.Common.{◌≡◌, Bool, true, false, not, ◌&&◌, ◌||◌, ◌==◌, [], ◌∷◌, ◌++◌, refl, ap, ap₂, ◌∙◌}
use mathlib.Core.Bool.{and-true, and-false}
use Rattle.std.specs.Path.{has_no_slash}
use Rattle.glob_text.specs.Characters.{slash, dot}
use Rattle.glob_text.specs.Text.{Text}
use Rattle.glob_text.specs.Pieces.{begins_with}
use Rattle.glob_pattern.specs.Matching.Taking.{takes}
use Rattle.glob_pattern.specs.Matching.Components.{admits, with_separator_rule, is_open}
use Rattle.glob_pattern.specs.declared.options.MatchOptions.{MatchOptions}
use Rattle.glob_pattern.specs.declared.token.Token.TheVariants.{Recursive}
use Rattle.glob_walk.proofs.ComponentLemmas.Fits.{After, closed_then, fits}
use Rattle.glob_walk.proofs.ComponentLemmas.FirstSeparator.{no_slash_parts}

-- the dot rule allows a name that does not begin with a dot
no_dot : (d b : Bool) → not (d && b && false) ≡ true
no_dot true true = refl
no_dot true false = refl
no_dot false b = refl

admits-closed : (o : MatchOptions) (n : Text) → admits o false n ≡ true
admits-closed o [] = refl
admits-closed o (c ∷ cs) = by_rule o.require_literal_leading_dot
  where
    by_rule : (d : Bool) → not (d && false && c == dot) ≡ true
    by_rule true = refl
    by_rule false = refl

admits-slash : (o : MatchOptions) (b : Bool) → takes (with_separator_rule o) b slash Recursive ≡ true
admits-slash o b = no_dot o.require_literal_leading_dot b

-- whether a name is open, by its first byte
pub is_open-begins : (o : MatchOptions) (n : Text) → is_open o n ≡ not (o.require_literal_leading_dot && begins_with dot n)
is_open-begins o [] = by_rule o.require_literal_leading_dot
  where
    by_rule : (d : Bool) → true ≡ not (d && false)
    by_rule true = refl
    by_rule false = refl
is_open-begins o (c ∷ cs) = by_rule o.require_literal_leading_dot
  where
    by_rule : (d : Bool) → not (d && true && c == dot) ≡ not (d && c == dot)
    by_rule true = refl
    by_rule false = refl

-- up to a separator, a closed piece is a name and the separator, perhaps followed by more
pub closed-cut : (o : MatchOptions) (next : After) (b : Bool) (n r : Text) → has_no_slash n ≡ true
    → closed_then (with_separator_rule o) Recursive next b (n ++ slash ∷ r) ≡ (admits o b n &&
    (next true r || closed_then (with_separator_rule o) Recursive next true r))
closed-cut o next b [] r h = ap₂ (λ x y. x && y) (admits-slash o b) refl
closed-cut o next b (c ∷ n) r h =
    let (other, rest) = no_slash_parts c n h in
    ap (λ x. takes (with_separator_rule o) b c Recursive && ((x && next x (n ++ slash ∷ r)) || closed_then
    (with_separator_rule o) Recursive next x (n ++ slash ∷ r))) other
    ∙ ap (λ x. takes (with_separator_rule o) b c Recursive && x) (closed-cut o next false n r rest ∙ ap
    (λ x. x && (next true r || closed_then (with_separator_rule o) Recursive next true r)) (admits-closed o n))

-- a text without separators is not a closed piece
pub closed-fall : (o : MatchOptions) (next : After) (b : Bool) (n : Text) → has_no_slash n ≡ true → closed_then
    (with_separator_rule o) Recursive next b n ≡ false
closed-fall o next b [] h = refl
closed-fall o next b (c ∷ n) h =
    let (other, rest) = no_slash_parts c n h in
    ap (λ x. takes (with_separator_rule o) b c Recursive && ((x && next x n) || closed_then (with_separator_rule o)
    Recursive next x n)) other
    ∙ ap (λ x. takes (with_separator_rule o) b c Recursive && x) (closed-fall o next false n rest) ∙ and-false
    (takes (with_separator_rule o) b c Recursive)

-- a last `**` takes one name
pub last-name : (o : MatchOptions) (b : Bool) (n : Text) → has_no_slash n ≡ true → fits (with_separator_rule o)
    (Recursive ∷ []) b n ≡ admits o b n
last-name o b [] h = refl
last-name o b (c ∷ n) h =
    let (other, rest) = no_slash_parts c n h in
    ap (λ x. takes (with_separator_rule o) b c Recursive && fits (with_separator_rule o) (Recursive ∷ []) x n) other
    ∙ ap (λ x. takes (with_separator_rule o) b c Recursive && x) (last-name o false n rest ∙ admits-closed o n)
    ∙ and-true (takes (with_separator_rule o) b c Recursive)

pub last-cut : (o : MatchOptions) (b : Bool) (n r : Text) → has_no_slash n ≡ true → fits (with_separator_rule o)
    (Recursive ∷ []) b (n ++ slash ∷ r) ≡ (admits o b n && fits (with_separator_rule o) (Recursive ∷ []) true r)
last-cut o b [] r h = ap₂ (λ x y. x && y) (admits-slash o b) refl
last-cut o b (c ∷ n) r h =
    let (other, rest) = no_slash_parts c n h in
    ap (λ x. takes (with_separator_rule o) b c Recursive && fits (with_separator_rule o) (Recursive ∷ []) x (n ++ slash ∷ r)) other
    ∙ ap (λ x. takes (with_separator_rule o) b c Recursive && x) (last-cut o false n r rest ∙ ap (λ x. x && fits
    (with_separator_rule o) (Recursive ∷ []) true r) (admits-closed o n))
