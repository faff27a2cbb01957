use Rattle.std.proofs.Common.{◌≡◌, ◌++◌, OnOk, [], ap, map, string_bytes, subst, ◌∙◌}
use Rattle.std.specs.Prelude.{slice_index_or}
use Rattle.globs.specs.GitNaming.{place_from}
use Rattle.globs.specs.Naming.{named_record}
use Rattle.globs.proofs.ignore.git_naming.append_decided.Goals as goal

pub returns-in-Last-clause-appended : goal.returns-in-Last-clause-appended
returns-in-Last-clause-appended g c r is =
    let file = c.name_at-file.ensures
    ∙ ap (λ ns. slice_index_or (map (λ n. string_bytes n) ns) c.in-Last.index []) c.as_slice.ensures.value
    ∙ ap (λ ns. slice_index_or ns c.in-Last.index []) is.above in
    rw c.in-Last.is (subst (λ f. OnOk c.append_from-in-Last.result (c.append_from-in-Last.new.output.items ≡ c.args.output.now.items
    ++ named_record c.args.end (place_from r.known f c.args.deciding.now.rule.line) c.args.path.now)) file
    (c.append_from-in-Last.ensures.appended r.known is.known))
