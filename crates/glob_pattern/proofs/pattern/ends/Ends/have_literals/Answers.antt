use Rattle.std.proofs.Common.{◌-◌, ◌↔◌, IsTrue, length, take, ap, sym, subst, arith}
use Rattle.std.proofs.lemmas.List.{length-take-le}
use Rattle.glob_pattern.specs.Private.Ends.{HasEnds}
use Rattle.glob_pattern.proofs.MatchingLemmas.Stripped.{pattern-first, pattern-last, range-end}
use Rattle.glob_pattern.proofs.pattern.ends.Ends.have_literals.Goals as goal

pub slice_bounds-prefix-end : goal.slice_bounds-prefix-end
slice_bounds-prefix-end g c =
    let first = pattern-first c.args.tokens.now c.args.self.now c.requires.ends c.args.pattern.now c.utf8.pattern c.requires.pattern in
    sym (length-take-le c.args.self.now.prefix.bytes _ (omega (arith, first.1, ap length c.as_bytes-literals.ensures.value)))

pub overflow_sub-suffix : goal.overflow_sub-suffix
overflow_sub-suffix g c =
    let last = pattern-last c.args.tokens.now c.args.self.now c.requires.ends c.args.pattern.now c.utf8.pattern c.requires.pattern in
    omega (arith, last.1, ap length c.as_bytes-literals.ensures.value)

pub returns : goal.returns
returns g c =
    let pattern = c.args.pattern.now in
    subst (λ suffix. IsTrue c.has_ends.result ↔ HasEnds c.args.options.case_sensitive
    (take c.args.self.now.prefix.bytes pattern) suffix c.args.bytes.now)
    (range-end pattern (length pattern - c.args.self.now.suffix.bytes)) (rw c.as_bytes-literals.ensures.value at c.has_ends.ensures)
