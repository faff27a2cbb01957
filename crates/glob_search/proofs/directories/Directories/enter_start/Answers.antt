use Rattle.std.proofs.Common.{◌≡◌, [], None, Some, length, refl, ap, sym, subst, ◌∙◌, eqb, OnOk}
use Rattle.std.proofs.lemmas.Bool.{both_ways, eqb-true}
use Rattle.std.proofs.lemmas.List.{nil_from_length}
use Rattle.glob_search.specs.Private.Entering.{IsAt, entered_of, names_to}
use Rattle.glob_search.proofs.AskingLemmas.{no-directories, nothing-entered, some-entered}
use Rattle.glob_search.proofs.directories.Directories.enter_start.Goals as goal

pub returns-then-is_empty-clause-starts : goal.returns-then-is_empty-clause-starts
returns-then-is_empty-clause-starts g c = λ a known last same at.
    let s = c.args.self.now in
    let empty : s.entered.items ≡ [] =
    nil_from_length s.entered.items (sym s.entered.ok.0 ∙ eqb-true _ 0 (sym c.is_empty.ensures ∙ c.if-is_empty.true)) in
    let none : last ≡ None = nothing-entered a last (sym at.entered ∙ ap entered_of empty) in
    subst (λ o. OnOk c.enter.result (IsAt a known c.enter.new.self (Some (names_to o)))) (sym none)
    (c.enter.ensures.enters a known None [] same (subst (IsAt a known s) none at) refl c.new.ensures.bytes refl refl)

pub returns-clause-starts : goal.returns-clause-starts
returns-clause-starts g c = λ a known last same at.
    let s = c.args.self.now in
    subst (IsAt a known s) (some-entered a last (λ none.
    both_ways (eqb _ 0) (sym c.is_empty.ensures ∙ c.if-is_empty.false)
    (ap (λ n. eqb n 0) (s.entered.ok.0 ∙ ap length (no-directories s.entered.items (at.entered ∙ none)))))) at
