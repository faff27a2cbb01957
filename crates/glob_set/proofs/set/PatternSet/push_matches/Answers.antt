use Rattle.std.proofs.Common.{Contains, sym, subst}
use Rattle.glob_set.specs.Sets.{MatchesAt}
use Rattle.glob_set.proofs.AskingLemmas.{AreMatches-of, OnOk-follow, only_matches}
use Rattle.glob_set.proofs.set.PatternSet.push_matches.Goals as goal

pub returns : goal.returns
returns g c =
    let set = c.args.self.now in
    let text = c.args.text.now in
    let first = c.push_of.new.numbers.items in
    let second = c.push_of-2.new.numbers.items in
    OnOk-follow c.push_of-2.result _ _
    (λ all. AreMatches-of set.options set.patterns text c.listed_for-listed.result.now
    c.listed_for-listed.new.found.items c.listed_for-listed.ensures first second
    (only_matches (MatchesAt set.options set.patterns text) c.args.numbers.now.items first c.requires c.push_of.ensures.only)
    c.in_ok-push_of.ensures.all c.push_of-2.ensures.only c.push_of-2.ensures.kept
    (λ k has. all k (subst (λ ks. Contains ks k) (sym c.numbers-2.ensures) has)))
    c.push_of-2.ensures.all
