use Rattle.std.proofs.Common.{[], ◌∷◌, ◌++◌, ap, sym, ◌∙◌}
use Rattle.std.specs.Prelude.{option_map}
use Rattle.glob_tree.specs.Paths.{nul}
use Rattle.glob_replay_walks.specs.MemFiles.{key_of}
use Rattle.glob_replay_walks.proofs.FileLemmas.{name_here, name_elsewhere}
use Rattle.glob_replay_walks.proofs.mem_files.add_names.Goals as goal
use Rattle.glob_replay_walks.proofs.mem_files.add_names.Goals.{in-Some+in_ok-add_name, in_default}

pub loop-entry-preserved : goal.loop-entry-preserved
loop-entry-preserved g c = elim c.match-name_in.branch [
  | in-Some+in_ok-add_name w ↦ rw w.bytes-is (w.in_ok-add_name.ensures ∙
      ap (λ n. c.loop-entry.bytes.items ++ (n ++ nul ∷ [])) w.as_bytes.ensures.value
      ∙ name_here (key_of c.args.key.now) c.args.kinds.now c.loop-entry.entry-index c.entry-item.result
      c.loop-entry-test.true c.entry-item.is
      c.loop-entry.bytes.items c.args.bytes.now.items c.loop-entry.invariant w.in-Some.name.now
      (sym c.name_in.ensures ∙ ap (option_map (λ n. n.now)) w.in-Some.is))
  | in_default w ↦ rw w.bytes-is (name_elsewhere (key_of c.args.key.now) c.args.kinds.now c.loop-entry.entry-index
      c.entry-item.result c.loop-entry-test.true c.entry-item.is
      c.loop-entry.bytes.items c.args.bytes.now.items c.loop-entry.invariant
      (sym c.name_in.ensures ∙ ap (option_map (λ n. n.now)) w.in_default.is))
]
