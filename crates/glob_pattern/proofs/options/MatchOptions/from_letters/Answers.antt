use Rattle.std.proofs.Common.{◌≡◌, ◌+◌, ◌<◌, ℕ, zero, suc, List, [], ◌∷◌, length, drop, get_or, refl, sym, ap, ◌∙◌, arith}
use Rattle.std.specs.Prelude.{option_and_then}
use Rattle.std.proofs.lemmas.List.{drop_all}
use Rattle.glob_pattern.specs.Matching.Options.{with_letter, with_letters}
use Rattle.glob_pattern.specs.declared.options.MatchOptions.{MatchOptions}
use Rattle.glob_pattern.proofs.options.MatchOptions.from_letters.Goals as goal

-- one more letter
next : (ls : List ℕ) (i : ℕ) (o : MatchOptions) → i < length ls
    → with_letters (drop i ls) o ≡ option_and_then (with_letters (drop (suc i) ls)) (with_letter (get_or ls i 0) o)
next [] i o lt = absurd (omega (arith, lt))
next (l ∷ ls) zero o lt = refl
next (l ∷ ls) (suc i) o lt = next ls i o (omega (arith, lt))

pub loop-letter-init : goal.loop-letter-init
loop-letter-init c = ap (with_letters c.args.letters.now) c.new-options.ensures

-- a letter of no option decides
pub returns-in_err-options : goal.returns-in_err-options
returns-in_err-options c =
    let l = c.loop-letter in
    let ls = c.args.letters.now in
    c.from_residual.ensures
    ∙ ap (option_and_then (with_letters (drop (suc l.letter-index) ls))) (sym (c.in_err-options.was)
    ∙ c.with_letter.ensures ∙ ap (λ bs. with_letter (get_or bs l.letter-index 0) l.options)
    c.as_bytes-letter-items.ensures.value)
    ∙ sym (next ls l.letter-index l.options (omega arith)) ∙ l.invariant

pub loop-letter-preserved : goal.loop-letter-preserved
loop-letter-preserved c =
    let l = c.loop-letter in
    let ls = c.args.letters.now in
    let more : l.letter-index + 1 ≡ suc l.letter-index = omega arith in
    ap (λ n. with_letters (drop n ls) c.in_ok-options.options) more
    ∙ ap (option_and_then (with_letters (drop (suc l.letter-index) ls))) (sym (c.in_ok-options.was)
    ∙ c.with_letter.ensures ∙ ap (λ bs. with_letter (get_or bs l.letter-index 0) l.options)
    c.as_bytes-letter-items.ensures.value)
    ∙ sym (next ls l.letter-index l.options (omega arith)) ∙ l.invariant

pub returns : goal.returns
returns c =
    let l = c.loop-letter in
    sym (ap (λ ls. with_letters ls l.options) (drop_all l.letter-index c.args.letters.now (omega arith))) ∙ l.invariant
