use Rattle.std.proofs.Common.{sym, ◌∙◌}
use Rattle.glob_replay_walks.specs.MemFiles.{key_of}
use Rattle.glob_replay_walks.proofs.FileLemmas.{stray_here, stray_elsewhere}
use Rattle.glob_replay_walks.proofs.mem_files.add_strays.Goals as goal
use Rattle.glob_replay_walks.proofs.mem_files.add_strays.Goals.{then-is_at+in_ok-add_name, else-is_at}

pub loop-stray-preserved : goal.loop-stray-preserved
loop-stray-preserved g c = elim c.if-is_at.branch [
  | then-is_at+in_ok-add_name w ↦ rw w.bytes-is (w.in_ok-add_name.ensures
      ∙ stray_here (key_of c.args.key.now) c.args.strays.now c.loop-stray.stray-index c.stray-item.result
      c.loop-stray-test.true c.stray-item.is
      c.loop-stray.bytes.items c.args.bytes.now.items c.loop-stray.invariant (sym c.is_at.ensures ∙ w.if-is_at.true))
  | else-is_at w ↦ rw w.bytes-is (stray_elsewhere (key_of c.args.key.now) c.args.strays.now c.loop-stray.stray-index
      c.stray-item.result c.loop-stray-test.true c.stray-item.is
      c.loop-stray.bytes.items c.args.bytes.now.items c.loop-stray.invariant (sym c.is_at.ensures ∙ w.if-is_at.false))
]
