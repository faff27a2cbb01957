use Rattle.std.proofs.Common.{◌∙◌, ap, sym}
use Rattle.glob_search.specs.Aims.{outer_of}
use Rattle.glob_search.specs.Searching.{ignores_directory}
use Rattle.globs.specs.Find.Above.{rule_from}
use Rattle.globs.proofs.AboveLemmas.{or-first, or-second, rule-above, rule-here, rule-nowhere}
use Rattle.globs.proofs.above.Above.enter.Goals.{then-self, else-self, then-is_ignored+then-not-self+in_ok-rule, else-is_ignored}
use Rattle.globs.proofs.above.Above.enter.Goals.{else-is_ignored-via-then-is_ignored+else-not-self}
use Rattle.globs.proofs.above.Above.enter.Goals.{else-is_ignored-via-else-is_ignored}
use Rattle.globs.proofs.above.Above.enter.Goals as goal

pub returns-clause-ignored : goal.returns-clause-ignored
returns-clause-ignored g c =
    let before = c.args.self.is_ignored in
    let here = ignores_directory (outer_of c.args.self.lists.items) c.args.name.now in
    elim c.if-self.branch [
      | then-self w ↦ or-first before here c.if-self.result w.if-self.true w.result-is
      | else-self w ↦ or-second before here c.if-self.result w.if-self.false
          (w.result-is ∙ c.in_ok-is_ignored.ensures ∙ ap (λ ls. ignores_directory (outer_of ls) c.args.name.now) c.as_slice.ensures.value)
    ]

pub returns-clause-rule : goal.returns-clause-rule
returns-clause-rule g c =
    let name = c.args.name.now in
    let before = c.args.self.ignoring in
    let here = ignores_directory (outer_of c.args.self.lists.items) name in
    let rule = rule_from 0 (outer_of c.args.self.lists.items) name in
    let says = sym (c.in_ok-is_ignored.ensures ∙ ap (λ ls. ignores_directory (outer_of ls) name) c.as_slice.ensures.value) in
    elim c.if-is_ignored.branch [
      | then-is_ignored+then-not-self+in_ok-rule w ↦ rule-here c.args.self.is_ignored here before _ c.if-is_ignored.ignoring rule
          w.if-not-self.true (says ∙ w.if-is_ignored.true) (w.ignoring-is ∙ w.or-ignoring.ensures)
          (w.in_ok-rule.ensures ∙ ap (λ ls. rule_from 0 (outer_of ls) name) w.as_slice-then-not-self.ensures.value)
      | else-is_ignored w ↦ elim w.else-is_ignored.branch [
        | else-is_ignored-via-then-is_ignored+else-not-self w' ↦ rule-above c.args.self.is_ignored here before
            c.if-is_ignored.ignoring rule w'.if-not-self.false w.ignoring-is
        | else-is_ignored-via-else-is_ignored w' ↦ rule-nowhere c.args.self.is_ignored here before
            c.if-is_ignored.ignoring rule (says ∙ w'.if-is_ignored.false) w.ignoring-is
      ]
    ]
