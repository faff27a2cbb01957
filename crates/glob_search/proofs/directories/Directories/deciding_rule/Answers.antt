use Rattle.std.proofs.Common.{◌≡◌, ◌++◌, ◌∷◌, [], map, string_bytes, true, ap, sym, subst, ◌∙◌}
use Rattle.std.specs.Prelude.{IfOk, option_map}
use Rattle.glob_text.specs.Pieces.{pieces}
use Rattle.glob_search.specs.Asking.{asked, decision_of, last_rule}
use Rattle.glob_search.specs.Private.Entering.{rule_names}
use Rattle.glob_search.proofs.ActiveLemmas.{active-boundaries}
use Rattle.glob_search.proofs.EngineLemmas.Paths.{AreProper}
use Rattle.glob_search.proofs.AskingLemmas.{active-at, paired-at}
use Rattle.glob_search.proofs.DecidingLemmas.{held-decides, rule-above, rule-last}
use Rattle.glob_search.proofs.PieceLemmas.{path-whole}
use Rattle.glob_search.proofs.directories.Directories.deciding_rule.Goals as goal

pub returns-in-Some-clause-decides : goal.returns-in-Some-clause-decides
returns-in-Some-clause-decides g c = λ a known same read.
    let path = c.args.path.now in
    let d = c.args.is_dir in
    let s = c.descend.new.self in
    let proper : AreProper (pieces path) = sym c.has_proper_names.ensures ∙ c.if-not-has_proper_names.false in
    let h = c.in_ok-directory.ensures.descends a known same proper read in
    let stops = rw c.in-Some.is at h.stops in
    let text = c.as_str.ensures.value ∙ stops.1 in
    let cuts = active-boundaries a h.directory h.name s.held.active c.as_str.result.now
    (active-at a known s h.directory h.at) text c.as_str.utf8 in
    subst (λ o. IfOk c.deciding_rule.result (λ r. option_map (λ x. decision_of x) r ≡ o))
    (held-decides a known s h.directory h.name c.as_str.result.now true h.at text
    ∙ ap (λ v. last_rule (asked a known (map (λ f. string_bytes f) v.items) (h.directory ++ h.name ∷ [])) true)
    c.in_ok-directory.ensures.files
    ∙ sym (rule-above a known (rule_names c.args.self.now) path h.directory h.name h.more d proper h.whole h.at.kept stops.0 stops.2))
    (c.deciding_rule.ensures cuts.0 cuts.1 (paired-at a known s _ h.at))

pub returns-in-None-clause-decides : goal.returns-in-None-clause-decides
returns-in-None-clause-decides g c = λ a known same read.
    let path = c.args.path.now in
    let d = c.args.is_dir in
    let s = c.descend.new.self in
    let proper : AreProper (pieces path) = sym c.has_proper_names.ensures ∙ c.if-not-has_proper_names.false in
    let h = c.in_ok-directory.ensures.descends a known same proper read in
    let last : h.more ≡ [] = rw c.in-None.is at h.stops in
    let text = path-whole path (h.directory ++ h.name ∷ []) (h.whole ∙ ap (λ ns. h.directory ++ h.name ∷ ns) last) in
    let cuts = active-boundaries a h.directory h.name s.held.active path (active-at a known s h.directory h.at) text c.utf8.path in
    subst (λ o. IfOk c.deciding_rule-in-None.result (λ r. option_map (λ x. decision_of x) r ≡ o))
    (held-decides a known s h.directory h.name path d h.at text
    ∙ ap (λ v. last_rule (asked a known (map (λ f. string_bytes f) v.items) (h.directory ++ h.name ∷ [])) d)
    c.in_ok-directory.ensures.files
    ∙ sym (rule-last a known (rule_names c.args.self.now) path h.directory h.name h.more d proper h.whole h.at.kept last))
    (c.deciding_rule-in-None.ensures cuts.0 cuts.1 (paired-at a known s _ h.at))
