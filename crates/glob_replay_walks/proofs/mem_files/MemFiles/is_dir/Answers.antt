use Rattle.std.proofs.Common.{refl, sym, ◌∙◌}
use Rattle.glob_replay_walks.specs.MemFiles.{key_of}
use Rattle.glob_replay_walks.proofs.FileLemmas.{is_dir_at-some, is_dir_at-none, value-same}
use Rattle.glob_replay_walks.proofs.mem_files.MemFiles.is_dir.Goals as goal

pub returns-in-Some : goal.returns-in-Some
returns-in-Some g c =
    c.is_dir.ensures ∙ is_dir_at-some c.args.self.now.kinds.items (key_of c.args.key.now) c.in-Some.kind
    (sym c.in-Some.is ∙ value-same c.value_at.result _ c.args.key.now _ c.args.self.now.kinds.items c.value_at.ensures
    refl c.as_slice.ensures.value)

pub returns-in-None : goal.returns-in-None
returns-in-None g c =
    is_dir_at-none c.args.self.now.kinds.items (key_of c.args.key.now)
    (sym c.in-None.is ∙ value-same c.value_at.result _ c.args.key.now _ c.args.self.now.kinds.items c.value_at.ensures
    refl c.as_slice.ensures.value)
