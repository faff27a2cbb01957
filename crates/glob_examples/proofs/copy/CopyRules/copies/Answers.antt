use Rattle.std.proofs.Common.{◌↔◌, IsTrue, not, sym, subst, ◌∙◌}
use Rattle.std.proofs.lemmas.Bool.{false≢true}
use Rattle.std.specs.Path.{path_bytes}
use Rattle.glob_examples.specs.Copying.{Copies}
use Rattle.glob_examples.proofs.Chosen.{Copies-not_included, Copies-unless}
use Rattle.glob_examples.proofs.copy.CopyRules.copies.Goals as goal

pub returns-then-not-branch : goal.returns-then-not-branch
returns-then-not-branch g c =
    let path = path_bytes c.args.path in
    let none = Copies-not_included _ path (λ any. absurd (false≢true
    (sym c.if-not-branch.true ∙ c.in_ok-is_match_path.ensures.answer.1 any))) in
    (λ yes. absurd (false≢true yes), λ copies. absurd (none (subst (λ rules. Copies rules path) (sym c.self.view_is) copies)))

pub returns : goal.returns
returns g c =
    let path = path_bytes c.args.path in
    let excluded = c.in_ok-is_match_path-2.field-0 in
    subst (λ rules. IsTrue (not excluded) ↔ Copies rules path) c.self.view_is
    (Copies-unless _ path (c.in_ok-is_match_path.ensures.answer.0 c.if-not-branch.false) excluded c.in_ok-is_match_path-2.ensures.answer)
