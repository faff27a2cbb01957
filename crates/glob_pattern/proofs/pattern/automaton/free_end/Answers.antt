use Rattle.std.proofs.Common.{◌≡◌, ◌≢◌, ℕ, ◌+◌, ◌-◌, ◌*◌, ◌%◌, ◌^◌, ◌<◌, ◌≤◌, List, length, map, get_or, ◌∙◌, ap, sym, arith}
use Rattle.std.specs.Int.{IsBitSet}
use Rattle.std.proofs.lemmas.List.{get_or-map, length-map}
use Rattle.glob_pattern.specs.Grammar.Tokens.{Token, shape_of}
use Rattle.glob_pattern.specs.Private.Positions.{EndsFreely, word_before}
use Rattle.glob_pattern.specs.declared.matcher.Shape.{Shape}
use Rattle.glob_pattern.specs.declared.matcher.Shape.TheVariants.{One, Run, Deep}
use Rattle.glob_pattern.proofs.BitLemmas.SetBits.{IsBitSet-one}
use Rattle.glob_pattern.proofs.pattern.automaton.free_end.Goals as goal

-- the last token before `end`, of this shape
EndsFreely-last : (tokens : List Token) (end j : ℕ) (t : Token) (shape : Shape) → 0 < end → end ≤ length tokens
    → t ≡ get_or tokens (end - 1) t → shape ≡ shape_of t → shape ≢ One
    → (shape ≡ Deep → end ≡ length tokens) → IsBitSet (1 * 2 ^ ((end - 1) % 63) % 2 ^ 64) j → EndsFreely
    (map shape_of tokens) end (63 * word_before end + j)
EndsFreely-last tokens end j t shape some within there is grows ends set =
    let here = (IsBitSet-one ((end - 1) % 63) j (omega arith)).0 set in
    let last : 63 * word_before end + j ≡ end - 1 = omega (arith, here) in
    let same : get_or (map shape_of tokens) (end - 1) One ≡ shape = get_or-map shape_of tokens (end - 1) t One
    (omega arith) ∙ ap shape_of (sym there) ∙ sym is in
    rw last (record {
      last = omega arith;
      grows = rw same grows;
      ends = λ deep. ends (sym same ∙ deep) ∙ sym (length-map tokens shape_of);
    })

pub returns-in-Run : goal.returns-in-Run
returns-in-Run g c = λ j set.
    EndsFreely-last c.args.tokens.now c.args.end j c.index-tokens-end.result Run (omega arith) c.requires
    c.index-tokens-end.is c.in-Run.ensures (λ one. cc) (λ deep. cc) set

pub returns-in-Deep : goal.returns-in-Deep
returns-in-Deep g c = λ j set.
    EndsFreely-last c.args.tokens.now c.args.end j c.index-tokens-end.result Deep (omega arith) c.requires
    c.index-tokens-end.is c.in-Deep.ensures (λ one. cc) (λ _. c.if-end-tokens.true) set
