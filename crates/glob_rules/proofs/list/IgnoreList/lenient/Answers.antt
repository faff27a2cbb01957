use Rattle.std.proofs.Common.{◌≡◌, length, sym, ap, subst, ◌∙◌}
use Rattle.glob_set.specs.Sets.{Set}
use Rattle.glob_rules.specs.Lists.{TextRead}
use Rattle.glob_rules.proofs.LineLemmas.{text_read-lengths}
use Rattle.glob_rules.proofs.list.IgnoreList.lenient.Goals as goal

pub invariant_of-result : goal.invariant_of-result
invariant_of-result g c =
    let same = subst (λ (r : TextRead). length r.list.rules ≡ length r.list.patterns) (sym c.in_ok-read.ensures)
    (text_read-lengths c.args.text.now) in (
      ap length c.into_parts-lines.ensures.rules ∙ same ∙ sym (ap length c.into_parts-lines.ensures.patterns) ∙ sym
          (ap (λ (s : Set). length s.patterns) c.in_ok-set.ensures),
      ap (λ (s : Set). s.options) c.in_ok-set.ensures ∙ c.rule_options.ensures,
    )
