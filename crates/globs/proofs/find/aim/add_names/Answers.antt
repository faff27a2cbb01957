use Rattle.std.proofs.Common.{string_bytes, map, ap, ◌∙◌, arith}
use Rattle.std.proofs.lemmas.List.{map-append}
use Rattle.globs.proofs.SourceLemmas.{rules_done, rules_more}
use Rattle.globs.proofs.find.aim.add_names.Goals as goal

pub loop-word-preserved : goal.loop-word-preserved
loop-word-preserved g c =
    rules_more c.args.words.now c.loop-word.word-index _ _ _ _ (string_bytes c.in_ok-name.name) (omega arith) c.in_ok-name.ensures.ok
    (ap (map string_bytes) c.in_ok-push.ensures.items ∙ map-append string_bytes _ _) c.loop-word.invariant

pub returns : goal.returns
returns g c = rules_done c.args.words.now c.loop-word.word-index _ _ (omega arith) c.loop-word.invariant
