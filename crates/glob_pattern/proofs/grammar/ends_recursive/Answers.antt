use Rattle.std.proofs.Common.{refl, sym, ◌∙◌, arith}
use Rattle.std.proofs.lemmas.List.{nil_from_length}
use Rattle.glob_pattern.proofs.GrammarLemmas.Folding.{ends_recursive-last}
use Rattle.glob_pattern.proofs.grammar.ends_recursive.Goals as goal

pub returns-in-len1-up : goal.returns-in-len1-up
returns-in-len1-up g c =
    c.is_recursive.ensures ∙ sym (ends_recursive-last c.args.tokens.now c.last-item.result c.in-len1-up.len_at_least c.last-item.is)

pub overflow_sub-last : goal.overflow_sub-last
overflow_sub-last g c = c.in-len1-up.len_at_least

pub offset_bounds-tokens-tokens : goal.offset_bounds-tokens-tokens
offset_bounds-tokens-tokens g c = omega arith

pub bounds-tokens-tokens : goal.bounds-tokens-tokens
bounds-tokens-tokens g c = omega arith

pub returns-in-empty : goal.returns-in-empty
returns-in-empty g c = rw (nil_from_length c.args.tokens.now (omega (arith, c.in-empty.len_below))) refl
