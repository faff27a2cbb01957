use Rattle.std.proofs.Common.{◌≡◌, true, sym, ap, ◌∙◌}
use Rattle.glob_rules.specs.Lists.{begins_with_mark}
use Rattle.glob_rules.proofs.LineLemmas.{mark_boundary}
use Rattle.glob_rules.proofs.rules.without_byte_order_mark.Goals as goal

pub range_from-requires : goal.range_from-requires
range_from-requires c =
    let text = c.args.text.now in
    let yes : begins_with_mark text ≡ true = ap begins_with_mark (sym c.as_bytes.ensures.value)
    ∙ sym c.begins_with_mark.ensures ∙ c.if-begins_with_mark.true in
    λ _. mark_boundary text c.utf8.text yes
