use Rattle.std.proofs.Common.{map, string_bytes, refl, subst, ◌∙◌}
use Rattle.glob_search.specs.Private.Reading.{Adds}
use Rattle.glob_search.proofs.AskingLemmas.{enters}
use Rattle.glob_search.proofs.directories.Directories.enter.Goals as goal

pub returns-clause-enters : goal.returns-clause-enters
returns-clause-enters g c = λ a known last names same at next is proper kept.
    let s = c.args.self.now in
    let t = record s { held = c.read.new.self; entered = c.push.new.self } in
    enters a known s t last names (record { path = c.args.path; above = c.len-above.result }) at next proper kept refl
    c.in_ok-read.ensures.first c.in_ok-read.ensures.last
    (subst (λ fs. Adds known (map (λ f. string_bytes f) fs) names s.held t.held) c.as_slice.ensures.value
    (c.in_ok-read.ensures.reads known same names proper (c.as_str.ensures.value ∙ is)))
    c.in_ok-push.ensures.items is (c.len-above.ensures ∙ s.held.active.files.ok.0)
