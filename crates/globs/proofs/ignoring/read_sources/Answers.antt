use Rattle.std.proofs.Common.{◌++◌, map, ap, ◌∙◌}
use Rattle.globs.proofs.ignoring.read_sources.Goals as goal

pub returns : goal.returns
returns g c =
    let (texts, are, same) = rw c.new-sources.ensures.items at c.in_ok-add_files.ensures in
    (texts, are, c.in_ok-add_rules.ensures ∙ ap (λ ts. ts ++ map (λ w. w.now) c.args.rules.now) same)
