use Rattle.std.proofs.Common.{◌≡◌, ◌+◌, ◌∙◌, ⊎_elim, true, length, get_or, refl, sym, ap, arith}
use Rattle.std.proofs.lemmas.Bool.{cases_lt}
use Rattle.std.proofs.lemmas.List.{get_or_past}
use Rattle.std.proofs.lemmas.List.Sums.{AllPass-from_list_all}
use Rattle.glob_pattern.specs.declared.token.Token.TheVariants.{AnyChar}
use Rattle.glob_pattern.specs.Private.CharMasks.{is_plain}
use Rattle.glob_pattern.proofs.ClassLemmas.Separating.{one-class}
use Rattle.glob_pattern.proofs.MaskLemmas.Classes.{takes-caseless}
use Rattle.glob_pattern.proofs.pattern.char_masks.CharMasks.new.Goals as goal

pub returns-then-not-are_plain-clause-masks : goal.returns-then-not-are_plain-clause-masks
returns-then-not-are_plain-clause-masks g c = λ case. rw c.in_ok-new.ensures.ok (c.in_ok-listed.ensures case)

pub rows_of-requires-clause-partition : goal.rows_of-requires-clause-partition
rows_of-requires-clause-partition g c = one-class

pub fill-requires-clause-partition : goal.fill-requires-clause-partition
fill-requires-clause-partition g c = one-class

pub returns-clause-masks : goal.returns-clause-masks
returns-clause-masks g c = λ case.
    let tokens = c.args.tokens.now in
    let all = sym c.are_plain.ensures ∙ c.if-not-are_plain.false in
    record {
      partition = one-class;
      within = λ word lt. let none : word ≡ 0 = omega (arith, lt, c.if-words-gt1.false) in rw none (omega (arith, c.fill.auto.plain));
      row = λ word lt. let none : word ≡ 0 = omega (arith, lt, c.if-words-gt1.false) in rw none (record {
        takes = λ o opening d j same short.
            let t = get_or tokens (0 + j) AnyChar in
            let plain : is_plain t ≡ true = ⊎_elim
            (λ below. AllPass-from_list_all is_plain tokens all (0 + j) AnyChar below)
            (λ past. ap is_plain (get_or_past tokens (0 + j) AnyChar past)) (cases_lt (0 + j) (length tokens)) in
            rw (takes-caseless o opening true d t plain)
            (c.fill.ensures.plain.takes (record o { case_sensitive = true }) opening d j refl short);
      });
    }
