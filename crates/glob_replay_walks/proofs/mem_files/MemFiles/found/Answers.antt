use Rattle.std.proofs.Common.{Some, ap, sym, ◌∙◌}
use Rattle.std.specs.Prelude.{option_map, option_and_then}
use Rattle.glob_replay_walks.specs.MemFiles.{key_of, value_at, found_at}
use Rattle.glob_replay_walks.proofs.FileLemmas.{value-same}
use Rattle.glob_replay_walks.proofs.mem_files.MemFiles.found.Goals as goal

pub returns : goal.returns
returns g c =
    let k = key_of c.in-Some.key.items in
    let kinds = c.args.self.now.kinds.items in
    let links = c.args.self.now.links.items in
    ap (λ l. Some (c.in-Some-value_at.kind, l)) (value-same c.value_at-2.result _ c.in-Some.key.items _ links
    c.value_at-2.ensures c.as_slice-4.ensures.value c.as_slice-3.ensures.value)
    ∙ ap (option_map (λ kind. (kind, value_at k links))) (sym c.in-Some-value_at.is ∙
    value-same c.value_at.result _ c.in-Some.key.items _ kinds c.value_at.ensures c.as_slice-2.ensures.value c.as_slice.ensures.value)
    ∙ ap (option_and_then (found_at kinds links)) (ap (option_map (λ key. key_of key.items)) (sym c.in-Some.is) ∙ c.in_ok-key.ensures)
