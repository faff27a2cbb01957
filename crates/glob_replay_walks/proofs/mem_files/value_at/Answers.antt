use Rattle.std.proofs.Common.{rules, tests}
use Rattle.std.proofs.lemmas.Iterator.{YieldsList-from_slice}
use Rattle.std.proofs.lemmas.Iterator.Search.{find_from_yields_List}
use Rattle.glob_tree.specs.Content.{same_key}
use Rattle.glob_replay_walks.specs.MemFiles.{key_of, key_at}
use Rattle.glob_replay_walks.proofs.FileLemmas.{value-found, value-none}
use Rattle.glob_replay_walks.proofs.mem_files.value_at.Goals as goal

pub returns-in_err-entry : goal.returns-in_err-entry
returns-in_err-entry g c =
    rw c.from_residual.ensures (value-none (key_of c.args.key.now) c.args.list.now c.find.result
    (find_from_yields_List (λ e. same_key (key_of c.args.key.now) (key_at e)) _ _ c.find.result c.find.ensures.ran
    (YieldsList-from_slice c.args.list.now cc) (λ x b q k. search (rules, tests)))
    c.in_err-entry.was)

pub returns : goal.returns
returns g c =
    value-found (key_of c.args.key.now) c.args.list.now c.find.result
    (find_from_yields_List (λ e. same_key (key_of c.args.key.now) (key_at e)) _ _ c.find.result c.find.ensures.ran
    (YieldsList-from_slice c.args.list.now cc) (λ x b q k. search (rules, tests)))
    c.in_ok-entry.entry c.in_ok-entry.was
