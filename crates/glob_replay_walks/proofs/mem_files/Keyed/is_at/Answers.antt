use Rattle.std.proofs.Common.{ap, ◌∙◌}
use Rattle.std.specs.Cmp.Lexicographic.{pointwise}
use Rattle.std.specs.Prelude.{nat_eq}
use Rattle.glob_replay_walks.proofs.FileLemmas.{same_key-names}
use Rattle.glob_replay_walks.proofs.mem_files.Keyed.is_at.Goals as goal

pub returns : goal.returns
returns g c =
    c.eq.ensures
    ∙ ap (pointwise (λ a b. pointwise nat_eq a.now b.now) c.args.key.now) c.as_slice.ensures.value
    ∙ same_key-names c.args.key.now c.args.self.now.key.items
