use Rattle.std.proofs.Common.{◌∙◌, ap, map, refl, string_bytes, sym, true}
use Rattle.glob_search.specs.Aims.{rules_from}
use Rattle.globs.specs.ByGit.{git_aim}
use Rattle.globs.specs.Find.Above.{files_above, is_start_ignored, lists_above, start_rule}
use Rattle.globs.specs.Find.Aiming.{first_lists}
use Rattle.globs.proofs.ignore.around.rules_around.Goals as goal

pub returns : goal.returns
returns g c known place told put =
    let names = map (λ w. w.now) c.args.names.now in
    let above_at = g.P.Places.above c.args.places.now in
    let texts_at = g.P.Places.texts c.args.places.now in
    let way = ap (map (λ n. n.now)) c.as_slice-2.ensures.value ∙ c.in_ok-way.ensures ∙ ap (map string_bytes) c.as_slice.ensures.value
    ∙ c.in_ok-place.ensures place (ap above_at c.here-here.ensures ∙ put) in
    let read = c.in_ok-texts.ensures ∙ ap texts_at c.here-here.ensures ∙ told in
    let last = c.in_ok-last.ensures in
    record {
      known = last.kept ∙ read;
      files = c.in_ok-rules.ensures.files ∙ c.in_ok-files.ensures;
      agrees = c.in_ok-rules.ensures.fresh (git_aim names c.args.list place known) known (record {
        begins = sym (c.in_ok-first.ensures ∙ ap (λ b. first_lists true b c.args.list) c.is_ruled.ensures);
        reads = λ directory. ap (λ fs. rules_from known fs directory) (sym c.in_ok-files.ensures);
        ends = sym (last.lists known read ∙ ap (lists_above known) way);
      });
      ignored = last.ignored known read ∙ ap (is_start_ignored known) way;
      rule = last.rule known read ∙ ap (start_rule known) way;
      above = last.files known read refl ∙ ap (files_above known) way;
    }
