use Rattle.std.proofs.Common.{◌≡◌, ℕ, ◌<◌, None, Some, length, ap, sym, subst, ◌∙◌, arith}
use Rattle.std.specs.Prelude.{IfOk, option_map}
use Rattle.glob_rules.specs.declared.rule.Rule.{Rule}
use Rattle.glob_search.specs.Asking.{decision_of}
use Rattle.glob_search.specs.Private.Asked.{last_of, seen_by, seen_by_outer}
use Rattle.glob_search.proofs.DecidingLemmas.{held-by-file, held-by-first, held-by-last, last-within, length-seen, of-slice}
use Rattle.glob_search.proofs.held.HeldRules.deciding_rule.Goals as goal

pub returns-in-Some : goal.returns-in-Some
returns-in-Some g c = λ first_cuts cuts paired.
    let h = c.args.self.now in
    let path = c.args.path.now in
    let d = c.args.is_dir in
    let p : ℕ × Rule = (c.in-Some.number, c.in-Some.rule) in
    held-by-first h path d p
    (sym c.in-Some.is ∙ of-slice c.as_slice.result.now h.active.first.items path d c.in_ok-number.field-0 c.as_slice.ensures.value
    c.in_ok-number.ensures first_cuts)

pub returns-in-Some-2 : goal.returns-in-Some-2
returns-in-Some-2 g c = λ first_cuts cuts paired.
    let h = c.args.self.now in
    let path = c.args.path.now in
    let d = c.args.is_dir in
    let number = c.in-Some-2.number in
    let p : ℕ × Rule = (number, c.in-Some-2.rule) in
    let none : None ≡ last_of (seen_by path h.active.first.items) d 0 =
    sym c.in_default.is ∙ of-slice c.as_slice.result.now h.active.first.items path d c.in_ok-number.field-0 c.as_slice.ensures.value
    c.in_ok-number.ensures first_cuts in
    let found : Some p ≡ last_of (seen_by path h.active.files.items) d 0 =
    sym c.in-Some-2.is ∙ of-slice c.as_slice-2.result.now h.active.files.items path d c.in_ok-number-2.field-0 c.as_slice-2.ensures.value
    c.in_ok-number-2.ensures cuts in
    let within : number < length h.sources.items =
    omega (
      arith,
      last-within (seen_by path h.active.files.items) d 0 p (sym found),
      length-seen path h.active.files.items,
      paired,
    ) in
    subst (λ o. IfOk c.of_file.result (λ r. option_map (λ x. decision_of x) r ≡ o)) (held-by-file h path d p none found)
    (c.of_file.ensures within)

pub returns-in-Some-3 : goal.returns-in-Some-3
returns-in-Some-3 g c = λ first_cuts cuts paired.
    let h = c.args.self.now in
    let path = c.args.path.now in
    let d = c.args.is_dir in
    held-by-last h path d (Some (c.in-Some-3.number, c.in-Some-3.rule))
    (sym c.in_default.is ∙ of-slice c.as_slice.result.now h.active.first.items path d c.in_ok-number.field-0 c.as_slice.ensures.value
    c.in_ok-number.ensures first_cuts)
    (sym c.in_default-2.is
    ∙ of-slice c.as_slice-2.result.now h.active.files.items path d c.in_ok-number-2.field-0 c.as_slice-2.ensures.value
    c.in_ok-number-2.ensures cuts)
    (sym c.in-Some-3.is ∙ c.in_ok-number-3.ensures ∙ ap (λ ls. last_of (seen_by_outer path ls) d 0) c.as_slice-3.ensures.value)

pub returns-in-None : goal.returns-in-None
returns-in-None g c = λ first_cuts cuts paired.
    let h = c.args.self.now in
    let path = c.args.path.now in
    let d = c.args.is_dir in
    held-by-last h path d None
    (sym c.in_default.is ∙ of-slice c.as_slice.result.now h.active.first.items path d c.in_ok-number.field-0 c.as_slice.ensures.value
    c.in_ok-number.ensures first_cuts)
    (sym c.in_default-2.is
    ∙ of-slice c.as_slice-2.result.now h.active.files.items path d c.in_ok-number-2.field-0 c.as_slice-2.ensures.value
    c.in_ok-number-2.ensures cuts)
    (sym c.in-None.is ∙ c.in_ok-number-3.ensures ∙ ap (λ ls. last_of (seen_by_outer path ls) d 0) c.as_slice-3.ensures.value)
