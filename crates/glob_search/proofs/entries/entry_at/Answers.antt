use Rattle.std.proofs.Common.{◌≡◌, true, false, Option, Some, ap, sym, ◌∙◌}
use Rattle.glob_text.specs.Text.{Text}
use Rattle.glob_tree.specs.Content.{DirEntry}
use Rattle.glob_tree.specs.Paths.{child, is_proper}
use Rattle.glob_tree.specs.declared.tree.Look.TheVariants as look
use Rattle.glob_tree.proofs.ContentLemmas.Contents.{IsContent-from_test}
use Rattle.glob_search.proofs.EngineLemmas.Looking.{looked-improper, looked-missing, looked-there}
use Rattle.glob_search.proofs.entries.entry_at.Goals as goal

pub returns-in_default-clause-entry : goal.returns-in_default-clause-entry
returns-in_default-clause-entry g c = λ content names told there path.
    sym (looked-improper content (IsContent-from_test content told.1) names c.args.name.now
    (ap is_proper (sym c.in_ok-from_str.ensures.ok) ∙ sym c.in_default.ensures.proper))

pub returns-in-Missing-clause-entry : goal.returns-in-Missing-clause-entry
returns-in-Missing-clause-entry g c = λ content names told there path.
    let same : c.in-Ok.name ≡ c.args.name.now = c.in-Ok.ensures.name ∙ c.in_ok-from_str.ensures.ok in
    let proper : is_proper c.args.name.now ≡ true = ap is_proper (sym c.in_ok-from_str.ensures.ok) ∙ sym c.in-Ok.ensures.proper in
    let named : c.as_str-2.result.now ≡ child c.args.directory.now c.args.name.now = c.as_str-2.ensures.value
    ∙ c.in_ok-path.ensures ∙ ap (child c.args.directory.now) (c.as_str.ensures ∙ same) in
    sym (looked-missing content (IsContent-from_test content told.1) names there c.args.directory.now path
    c.args.name.now proper c.as_str-2.result.now named
    (sym (c.in_ok-look_at.ensures.seen content told) ∙ c.in-Missing.is))

pub returns-in-Dir-clause-entry : goal.returns-in-Dir-clause-entry
returns-in-Dir-clause-entry g c = λ content names told there path.
    let same : c.in-Ok.name ≡ c.args.name.now = c.in-Ok.ensures.name ∙ c.in_ok-from_str.ensures.ok in
    let proper : is_proper c.args.name.now ≡ true = ap is_proper (sym c.in_ok-from_str.ensures.ok) ∙ sym c.in-Ok.ensures.proper in
    let named : c.as_str-2.result.now ≡ child c.args.directory.now c.args.name.now = c.as_str-2.ensures.value
    ∙ c.in_ok-path.ensures ∙ ap (child c.args.directory.now) (c.as_str.ensures ∙ same) in
    let f : Text → Option DirEntry = λ n. Some (n, true) in
    ap f same
    ∙ looked-there content (IsContent-from_test content told.1) names there c.args.directory.now path c.args.name.now
    proper c.as_str-2.result.now named
    look.Dir (sym c.in-Dir.is ∙ c.in_ok-look_at.ensures.seen content told) (λ h. cc)

pub returns-in-Other-clause-entry : goal.returns-in-Other-clause-entry
returns-in-Other-clause-entry g c = λ content names told there path.
    let same : c.in-Ok.name ≡ c.args.name.now = c.in-Ok.ensures.name ∙ c.in_ok-from_str.ensures.ok in
    let proper : is_proper c.args.name.now ≡ true = ap is_proper (sym c.in_ok-from_str.ensures.ok) ∙ sym c.in-Ok.ensures.proper in
    let named : c.as_str-2.result.now ≡ child c.args.directory.now c.args.name.now = c.as_str-2.ensures.value
    ∙ c.in_ok-path.ensures ∙ ap (child c.args.directory.now) (c.as_str.ensures ∙ same) in
    let f : Text → Option DirEntry = λ n. Some (n, false) in
    ap f same
    ∙ looked-there content (IsContent-from_test content told.1) names there c.args.directory.now path c.args.name.now
    proper c.as_str-2.result.now named
    look.Other (sym c.in-Other.is ∙ c.in_ok-look_at.ensures.seen content told) (λ h. cc)
