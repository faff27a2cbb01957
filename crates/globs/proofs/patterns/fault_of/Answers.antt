use Rattle.std.proofs.Common.{◌≡◌, ◌∙◌, ℕ, ◌+◌, ◌<◌, List, [], ◌∷◌, ◌++◌, length, get_or, map, take, drop, subst, sym, ap, arith, Bor}
use Rattle.std.specs.Str.{chars}
use Rattle.std.proofs.lemmas.List.{drop_more, get_or-map, get_or-take, length-map, length-take-le, take-append-drop}
use Rattle.glob_pattern.specs.Grammar.Faults.{Fault, IsFault}
use Rattle.glob_pattern.specs.Grammar.Units.{IsAccepted}
use Rattle.glob_text.specs.Text.{Text}
use Rattle.glob_set.specs.BraceSets.{AreAccepted}
use Rattle.glob_set.specs.Sets.{RefusesTexts}
use Rattle.globs.proofs.patterns.fault_of.Goals as goal

-- the texts before an index, the text at it, and the texts after it
parted : (texts : List Text) (number : ℕ) → number < length texts → texts ≡ take number texts ++
    get_or texts number [] ∷ drop (number + 1) texts
parted texts number below = sym (take-append-drop number texts) ∙ ap (λ rest. take number texts ++ rest) (drop_more texts number [] below)

-- the texts before it are accepted
before_accepted : (texts : List Text) (number : ℕ) → number < length texts →
    ((k : ℕ) → k < number → IsAccepted (chars (get_or texts k []))) → AreAccepted (take number texts)
unfolding AreAccepted
before_accepted texts number below accepted k few =
    let low : k < number = omega (arith, few, length-take-le number texts (omega (arith, below))) in
    subst (λ t. IsAccepted (chars t)) (sym (get_or-take number texts k [] low)) (accepted k low)

-- the first text that is not accepted is the one at the index, and has the fault
first_fault : (texts : List (Bor Text)) (number : ℕ) (none : Bor Text) (fault : Fault) → number < length texts
    → ((k : ℕ) → k < number → IsAccepted (chars (get_or (map (λ t. t.now) texts) k []))) →
    IsFault (chars (get_or (map (λ t. t.now) texts) number [])) fault
    → (before after : List Text) × (map (λ t. t.now) texts ≡ before ++ (get_or texts number none).now ∷ after) ×
    AreAccepted before × IsFault (chars (get_or texts number none).now) fault
first_fault texts number none fault below accepted has =
    let all = map (λ t. t.now) texts in
    let few : number < length all = omega (arith, below, length-map texts (λ t. t.now)) in
    let here = get_or-map (λ t. t.now) texts number none [] below in (
      take number all,
      drop (number + 1) all,
      subst (λ t. all ≡ take number all ++ t ∷ drop (number + 1) all) here (parted all number few),
      before_accepted all number few accepted,
      subst (λ t. IsFault (chars t) fault) here has,
    )

below : (c : goal.In-Syntax) → c.in-Syntax.number < length c.args.patterns.now
unfolding RefusesTexts
below c = let refused = rw c.in-Syntax.is at c.requires in omega (arith, refused.0, length-map c.args.patterns.now (λ p. p.now))

pub bounds-patterns-number : goal.bounds-patterns-number
bounds-patterns-number c = below c

pub offset_bounds-patterns-number : goal.offset_bounds-patterns-number
offset_bounds-patterns-number c = omega (arith, below c)

pub returns-in-Syntax : goal.returns-in-Syntax
unfolding RefusesTexts
returns-in-Syntax c =
    let (few, before, has) = rw c.in-Syntax.is at c.requires in
    first_fault c.args.patterns.now c.in-Syntax.number _ _ (omega (arith, few, length-map c.args.patterns.now (λ p. p.now))) before has
