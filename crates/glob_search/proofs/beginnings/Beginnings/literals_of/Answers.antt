use Rattle.std.proofs.Common.{◌≡◌, ◌≤◌, [], ◌++◌, None, Some, ap, arith, get_or, length, map, string_bytes, sym, ◌∙◌}
use Rattle.std.specs.Prelude.{option_copied, option_map, slice_get, unwrap_or}
use Rattle.std.proofs.lemmas.List.{append-nil, take_all}
use Rattle.glob_search.proofs.BeginningLemmas.Names.{texts-more}
use Rattle.glob_search.proofs.beginnings.Beginnings.literals_of.Goals.{in-Some+else-loop-literal-test, in_default}
use Rattle.glob_search.proofs.beginnings.Beginnings.literals_of.Goals as goal

pub loop-number-preserved : goal.loop-number-preserved
loop-number-preserved g c =
    let nodes = c.args.self.now.nodes.items in
    let alive = c.args.alive.now in
    let i = c.loop-number.number-index in
    let n = get_or alive i 0 in
    let old = map (λ t. t.now) c.loop-number.names.items in
    texts-more nodes alive i c.loop-number-test.true old (map (λ t. t.now) c.match-node.names.items) c.loop-number.invariant
    (elim c.match-node.branch [
      | in-Some+else-loop-literal-test w ↦
          let at : slice_get nodes n ≡ Some w.in-Some.node.now = sym c.node.ensures ∙ ap option_copied w.in-Some.is in
          let le : length w.deref-literal-items.result.now ≤ w.loop-literal.literal-index = omega (arith, w.loop-literal-test.false) in
          ap (λ v. map (λ t. t.now) v.items) w.names-is ∙ w.loop-literal.invariant
          ∙ ap (λ ls. old ++ map (λ m. string_bytes m.text) ls) (take_all w.loop-literal.literal-index
          w.deref-literal-items.result.now le ∙ w.deref-literal-items.ensures.value)
          ∙ ap (λ ts. old ++ ts) (sym (ap (λ o. unwrap_or (option_map (λ node. map (λ l. string_bytes l.text)
          node.literals.items) o) []) at))
      | in_default w ↦
          let at : slice_get nodes n ≡ None = sym c.node.ensures ∙ ap option_copied w.in_default.is in
          ap (λ v. map (λ t. t.now) v.items) w.names-is ∙ sym (append-nil old)
          ∙ ap (λ ts. old ++ ts) (sym (ap (λ o. unwrap_or (option_map (λ node. map (λ l. string_bytes l.text)
          node.literals.items) o) []) at))
    ])
