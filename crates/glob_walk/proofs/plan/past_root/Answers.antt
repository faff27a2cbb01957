use Rattle.std.proofs.Common.{lit<, ap, ◌∙◌}
use Rattle.std.proofs.lemmas.Str.Pattern.{strip_prefix_char}
use Rattle.glob_text.specs.Characters.{slash}
use Rattle.glob_walk.specs.Components.{without_end_separator}
use Rattle.glob_walk.proofs.WalkLemmas.Reading.{without_root-stripped}
use Rattle.glob_walk.proofs.plan.past_root.Goals as goal

pub returns : goal.returns
returns c =
    let stripped = strip_prefix_char slash c.args.pattern.now c.strip_prefix.result c.strip_prefix.ensures.cases (lit< tt) in
    c.without_end.ensures ∙ ap without_end_separator (ap (λ x. x.now) c.unwrap_or.ensures ∙ without_root-stripped
    c.args.pattern c.strip_prefix.result stripped)
