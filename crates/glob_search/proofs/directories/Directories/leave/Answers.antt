use Rattle.std.proofs.Common.{◌-◌, ◌++◌, ◌∷◌, [], length, take, vec_len, refl, ap, sym, ◌∙◌, arith}
use Rattle.std.specs.Prelude.{slice_get}
use Rattle.glob_text.specs.Pieces.{pieces}
use Rattle.glob_search.specs.Private.Entering.{entered_of, names_to}
use Rattle.std.proofs.lemmas.List.{length-append, take_at}
use Rattle.glob_search.proofs.AskingLemmas.{cut-last, leaves, no-last, nothing-entered, stays-in}
use Rattle.glob_search.proofs.directories.Directories.leave.Goals as goal

pub returns-in-Some-below-clause-left : goal.returns-in-Some-below-clause-left
returns-in-Some-below-clause-left g c = λ a known last at.
    let s = c.loop-last.self in
    let (now, here) = c.loop-last.invariant.at a known last at in
    let (front, whole) = cut-last s.entered.items c.in-Some.last.now (c.in-Some.ensures.value
    ∙ ap (λ xs. slice_get xs (length xs - 1)) c.deref.ensures.value) in
    stays-in a known s now front c.in-Some.last.now c.args.path.now c.in-Some-below.rest.now here whole c.in-Some-below.ensures

pub returns-clause-left : goal.returns-clause-left
returns-clause-left g c = λ a known last at.
    let s = c.loop-last.self in
    let (now, here) = c.loop-last.invariant.at a known last at in
    let empty = no-last s.entered.items ((rw c.in_default.is at c.last.ensures.value)
    ∙ ap (λ xs. slice_get xs (length xs - 1)) c.deref.ensures.value) in
    let none = nothing-entered a now (sym here.entered ∙ ap entered_of empty) in
    record { last = now; at = here; whole = sym (ap (λ o. names_to o ++ pieces c.args.path.now) none) }

pub loop-last-preserved-in_default-below : goal.loop-last-preserved-in_default-below
loop-last-preserved-in_default-below g c = record {
  files = c.loop-last.invariant.files;
  first = c.leave.ensures.first ∙ c.loop-last.invariant.first;
  outer = c.leave.ensures.last ∙ c.loop-last.invariant.outer;
  at = λ a known last at.
      let s = c.loop-last.self in
      let t = record s { held = c.leave.new.self; entered = c.pop.new.self } in
      let e = c.in-Some.last.now in
      let (now, here) = c.loop-last.invariant.at a known last at in
      let (front, whole) = cut-last s.entered.items e
      (c.in-Some.ensures.value ∙ ap (λ xs. slice_get xs (length xs - 1)) c.deref.ensures.value) in
      leaves a known s t now front e here whole
      (c.pop.ensures.rest ∙ ap (λ xs. take (vec_len s.entered - 1) xs) whole ∙ take_at front (e ∷ []) (vec_len s.entered - 1)
      (omega (arith, s.entered.ok.0, ap length whole, length-append front (e ∷ []))))
      refl c.leave.ensures.first c.leave.ensures.last c.leave.ensures.files c.leave.ensures.sources;
}
