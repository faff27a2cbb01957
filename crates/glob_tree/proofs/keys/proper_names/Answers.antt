use Rattle.std.proofs.Common.{lit<}
use Rattle.std.proofs.lemmas.Option.{MatchOption-at_none}
use Rattle.std.proofs.lemmas.Str.Pattern.{strip_prefix_char}
use Rattle.glob_text.specs.Characters.{slash}
use Rattle.glob_tree.proofs.MemoryLemmas.Keys.{key_of_none}
use Rattle.glob_tree.proofs.keys.proper_names.Goals as goal

pub returns-in_err-names : goal.returns-in_err-names
returns-in_err-names c =
    let stripped = strip_prefix_char slash c.args.path.now c.strip_prefix.result c.strip_prefix.ensures.cases (lit< tt) in
    rw c.from_residual.ensures (key_of_none c.args.path.now (MatchOption-at_none _ _ c.in_err-names.was stripped))
