use Rattle.std.proofs.Common.{lit<, ap, ◌∙◌}
use Rattle.std.proofs.lemmas.Str.Pattern.{strip_suffix_char}
use Rattle.glob_text.specs.Characters.{slash}
use Rattle.glob_walk.proofs.WalkLemmas.Reading.{without_end-stripped}
use Rattle.glob_walk.proofs.plan.without_end.Goals as goal

pub returns : goal.returns
returns c =
    let stripped = strip_suffix_char slash c.args.text.now c.strip_suffix.result c.strip_suffix.ensures.cases (lit< tt) in
    ap (λ x. x.now) c.unwrap_or.ensures ∙ without_end-stripped c.args.text c.strip_suffix.result stripped
