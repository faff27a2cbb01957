use Rattle.std.proofs.Common.{◌≡◌, ◌≢◌, ◌+◌, ℕ, List, Bool, true, false, length, get_or, set, replicate, refl, sym, ap}
use Rattle.std.proofs.Common.{◌∙◌, subst, ⊎_elim, arith, rules}
use Rattle.std.proofs.lemmas.Bool.{cases_eq, false≢true}
use Rattle.std.proofs.lemmas.List.{length-set, length-replicate, get_or-replicate, get_or-set_same, get_or-set_other}
use Rattle.glob_pattern.specs.declared.options.MatchOptions.{MatchOptions}
use Rattle.glob_pattern.specs.Grammar.Tokens.{Token}
use Rattle.glob_text.specs.Text.{Text}
use Rattle.glob_captures.specs.Private.Fronts.{AreFronts}
use Rattle.glob_captures.proofs.FrontLemmas.{TakeFront-none}
use Rattle.glob_captures.proofs.reaching.fronts_at_start.Goals as goal

-- only the start
start : (o : MatchOptions) (tokens : List Token) (text : Text) (n : ℕ) → n ≡ length text + 1 → AreFronts o tokens text
    0 (set (replicate n false) 0 true)
start o tokens text n e =
    let falses : List Bool = replicate n false in
    let many : length falses ≡ n = length-replicate n false in
    record {
      many = length-set falses 0 true ∙ many ∙ e;
      front = λ k within.
          let none = TakeFront-none o tokens text k in
          ⊎_elim
          (λ (at : k ≡ 0). (
            (λ _. none.1 at),
            (λ _. ap (λ i. get_or (set falses 0 true) i false) at ∙ get_or-set_same
                falses 0 true false (omega arith)),
          ))
          (λ (other : k ≢ 0).
          let dark : get_or (set falses 0 true) k false ≡ false = get_or-set_other falses 0 k true false other
          ∙ get_or-replicate n k false false (omega arith) in
          ((λ h. absurd (false≢true (sym dark ∙ h))), (λ h. absurd (other (none.0 h)))))
          (cases_eq k 0);
    }

pub returns : goal.returns
returns g c = λ o tokens.
    subst (λ xs. AreFronts o tokens c.args.text.now 0 (set xs 0 true)) (sym (c.in_ok-places.ensures.items_if_clones_equal (search rules)))
    (start o tokens c.args.text.now (length c.args.text.now + 1) refl)
