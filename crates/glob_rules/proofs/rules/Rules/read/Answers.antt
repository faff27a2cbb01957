use Rattle.std.proofs.Common.{◌≡◌, ◌+◌, ◌≤◌, ◌++◌, ◌∷◌, [], length, ap, ◌∙◌, lit<, arith}
use Rattle.std.proofs.lemmas.Iterator.Consumers.{YieldsList-turn, YieldsList-end}
use Rattle.std.proofs.lemmas.Iterator.Splits.{YieldsList-from_str_split}
use Rattle.std.proofs.lemmas.List.{length_push, take_all}
use Rattle.std.specs.List.{fold}
use Rattle.glob_rules.specs.Lists.{lines_of, none_read, read_line, text_read, without_byte_order_mark}
use Rattle.glob_rules.proofs.LineLemmas.{read-more}
use Rattle.glob_rules.proofs.rules.Rules.read.Goals as goal

pub loop-line-preserved : goal.loop-line-preserved
loop-line-preserved g c =
    let text = c.args.text.now in
    let l = c.loop-line in
    let line = c.in-Some.line.now in
    let split = YieldsList-from_str_split 10 (without_byte_order_mark text) (lit< tt) (cc) (cc) (cc) in
    let turn = YieldsList-turn split l.yielded _ l.yielded_by _ _ c.in-Some.line c.in-Some.is c.next.ensures.steps in
    let more : length (l.yielded ++ c.in-Some.line ∷ []) ≡ length l.yielded + 1 = length_push l.yielded c.in-Some.line in
    let added : c.add_line.new.self ≡ read_line l.rules line = c.in_ok-add_line.ensures ∙ ap (read_line l.rules)
    c.as_bytes.ensures.value in
    rw more (read-more text (length l.yielded) line turn.0 turn.1 l.rules c.add_line.new.self l.invariant added)

pub returns : goal.returns
unfolding text_read
returns g c =
    let text = c.args.text.now in
    let l = c.loop-line in
    let split = YieldsList-from_str_split 10 (without_byte_order_mark text) (lit< tt) (cc) (cc) (cc) in
    let all = YieldsList-end split l.yielded _ l.yielded_by _ _ c.in-None.is c.next.ensures.steps in
    let end : length (lines_of text) ≤ length l.yielded = omega (arith, all.1) in
    l.invariant ∙ ap (fold read_line none_read) (take_all (length l.yielded) (lines_of text) end)
