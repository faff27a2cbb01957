use Rattle.std.proofs.Common.{◌≡◌, ap, false, rules, string_bytes, subst, sym, ◌∙◌}
use Rattle.std.specs.List.{list_any}
use Rattle.std.specs.Str.{chars}
use Rattle.std.proofs.lemmas.Slice.Eq.{bytes_eq-Decides}
use Rattle.glob_pattern.specs.Grammar.Characters.{is_wildcard}
use Rattle.glob_pattern.specs.Grammar.Units.{IsAccepted}
use Rattle.glob_search.specs.Private.Nodes.{key_of, recursive}
use Rattle.glob_search.proofs.BeginningLemmas.Keys.{key-key, key-wild, literal-accepted, literal-key, stars-accepted}
use Rattle.glob_search.proofs.beginnings.Beginnings.component.Goals as goal

pub returns-then-not-has_wildcard-clause-component : goal.returns-then-not-has_wildcard-clause-component
returns-then-not-has_wildcard-clause-component g c =
    let o = c.args.self.now.options in
    let text = c.args.text.now in
    let key = c.in_ok-key_of.field-0 in
    let wild : list_any is_wildcard text ≡ false = grind (rules) in
    let is : string_bytes key ≡ key_of o text = c.in_ok-key_of.ensures ∙ sym (literal-key o text wild) in (
      record {
        literal = ap (list_any is_wildcard) is ∙ key-wild o text ∙ wild;
        lower = ap (key_of o) is ∙ key-key o text ∙ sym is;
      },
      is,
    )

pub returns-then-not-has_wildcard-clause-accepted : goal.returns-then-not-has_wildcard-clause-accepted
returns-then-not-has_wildcard-clause-accepted g c =
    let wild : list_any is_wildcard c.args.text.now ≡ false = grind (rules) in
    literal-accepted c.args.text.now c.utf8.text wild

pub returns-then-eq-clause-accepted : goal.returns-then-eq-clause-accepted
returns-then-eq-clause-accepted g c =
    let is : c.args.text.now ≡ recursive = (bytes_eq-Decides c.args.text.now recursive).0 (sym c.eq.ensures ∙ c.if-eq.true) in
    subst (λ t. IsAccepted (chars t)) (sym is) stars-accepted
