use Rattle.std.proofs.Common.{◌∙◌, Some, ap, map, refl, subst, sym}
use Rattle.std.proofs.KnownBytes.{Keeps-refl}
use Rattle.glob_console.proofs.WritingLemmas.{OnErr-from}
use Rattle.glob_search.specs.Aims.{AreTextsOf}
use Rattle.glob_search.specs.Visiting.{gifts}
use Rattle.globs.specs.Find.Aiming.{aim, heeded}
use Rattle.globs.specs.Find.Kinds.{keeps_of, kept}
use Rattle.globs.specs.Find.Outcomes.{FindsPaths}
use Rattle.globs.specs.Find.Writing.{WritesGifts}
use Rattle.globs.proofs.AimLemmas.{aim-placed, given-same}
use Rattle.globs.proofs.EachLemmas.{FindsPaths-fault}
use Rattle.globs.proofs.SearchedLemmas.{WritesGifts-fault, WritesGifts-front}
use Rattle.globs.proofs.find.run_find.Goals as goal

pub returns-in-Err-clause-found : goal.returns-in-Err-clause-found
returns-in-Err-clause-found g c = FindsPaths-fault _ _ _ _ _ _ _ _ c.fault.ensures.status (Keeps-refl _)

pub returns-in_err-status-clause-some : goal.returns-in_err-status-clause-some
unfolding FindsPaths
returns-in_err-status-clause-some g c =
    let finds : FindsPaths (record {
      content = g.T.Tree.tells c.args.tree;
      texts = g.X.RuleTexts.texts c.args.texts;
      kinds = g.F.PathKinds.kinds c.args.files.now c.args.options.now.settings.follows c.args.place.path.now;
      above = Some (map (λ n. n.now) c.args.above.now);
    }) c.args.options.now c.args.list c.args.place.lead.now (map (λ p. p.now) c.args.patterns.now)
    (g.W.Write.contents c.args.output.now) (g.W.Write.contents c.run_search.new.output) 2 =
    (λ c' text_at keeps names told is sieve put fit.
    let o = c.args.options.now in
    let a = aim o c.args.list (map (λ p. p.now) c.args.patterns.now) names text_at in
    let held = g.W.Write.contents in
    let kinds_at = g.F.PathKinds.kinds c.args.files.now in
    let heeds = ap (λ h. heeded h (g.X.RuleTexts.texts c.args.texts)) c.heeds_files-heeds.ensures.heeds ∙ is in
    let sieved = c.new-sieve.ensures ∙ ap (λ v. keeps_of v.settings.kinds
    (kinds_at v.settings.follows c.args.place.path.now)) c.options.view_is ∙ sieve in
    let asked = aim-placed o c.args.list (map (λ p. p.now) c.args.patterns.now) (map (λ n. n.now) c.args.above.now) names text_at put in
    let fresh = given-same _ _ _ _ _ (c.in-Ok.ensures.fresh c' text_at told.1 heeds) asked in
    subst (λ v. WritesGifts c.args.place.lead.now v.settings.end (kept keeps (gifts c' a)) (held c.args.output.now)
    (held c.run_search.new.output) 2)
    c.options.view_is
    (WritesGifts-fault _ _ _ _ _ 2 refl
    (c.in_err-status.ensures.some keeps sieved c' a text_at told (c.in-Ok.ensures.kept ∙ heeds)
    (subst (λ ns. AreTextsOf c' a ns text_at) (sym c.in-Ok.ensures.files) fit) (gifts c' a) fresh))) in
    OnErr-from _ finds

pub returns-clause-found : goal.returns-clause-found
unfolding FindsPaths
returns-clause-found g c = λ c' text_at keeps names told is sieve put fit.
    let o = c.args.options.now in
    let a = aim o c.args.list (map (λ p. p.now) c.args.patterns.now) names text_at in
    let held = g.W.Write.contents in
    let kinds_at = g.F.PathKinds.kinds c.args.files.now in
    let heeds = ap (λ h. heeded h (g.X.RuleTexts.texts c.args.texts)) c.heeds_files-heeds.ensures.heeds ∙ is in
    let sieved = c.new-sieve.ensures ∙ ap (λ v. keeps_of v.settings.kinds
    (kinds_at v.settings.follows c.args.place.path.now)) c.options.view_is ∙ sieve in
    let asked = aim-placed o c.args.list (map (λ p. p.now) c.args.patterns.now) (map (λ n. n.now) c.args.above.now) names text_at put in
    let fresh = given-same _ _ _ _ _ (c.in-Ok.ensures.fresh c' text_at told.1 heeds) asked in
    subst (λ v. WritesGifts c.args.place.lead.now v.settings.end (kept keeps (gifts c' a)) (held c.args.output.now)
    (held c.run_search.new.output) c.in_ok-status.status)
    c.options.view_is
    (c.in_ok-status.ensures.written keeps sieved c' a text_at told (c.in-Ok.ensures.kept ∙ heeds)
    (subst (λ ns. AreTextsOf c' a ns text_at) (sym c.in-Ok.ensures.files) fit) (gifts c' a) fresh)

pub returns-then-has_fault-clause-found : goal.returns-then-has_fault-clause-found
unfolding FindsPaths
returns-then-has_fault-clause-found g c = λ c' text_at keeps names told is sieve put fit.
    let o = c.args.options.now in
    let a = aim o c.args.list (map (λ p. p.now) c.args.patterns.now) names text_at in
    let held = g.W.Write.contents in
    let kinds_at = g.F.PathKinds.kinds c.args.files.now in
    let heeds = ap (λ h. heeded h (g.X.RuleTexts.texts c.args.texts)) c.heeds_files-heeds.ensures.heeds ∙ is in
    let sieved = c.new-sieve.ensures ∙ ap (λ v. keeps_of v.settings.kinds
    (kinds_at v.settings.follows c.args.place.path.now)) c.options.view_is ∙ sieve in
    let asked = aim-placed o c.args.list (map (λ p. p.now) c.args.patterns.now) (map (λ n. n.now) c.args.above.now) names text_at put in
    let fresh = given-same _ _ _ _ _ (c.in-Ok.ensures.fresh c' text_at told.1 heeds) asked in
    subst (λ v. WritesGifts c.args.place.lead.now v.settings.end (kept keeps (gifts c' a)) (held c.args.output.now)
    (held c.run_search.new.output) 2)
    c.options.view_is
    (WritesGifts-fault _ _ _ _ _ 2 refl (WritesGifts-front _ _ _ _ _ _
    (c.in_ok-status.ensures.written keeps sieved c' a text_at told (c.in-Ok.ensures.kept ∙ heeds)
    (subst (λ ns. AreTextsOf c' a ns text_at) (sym c.in-Ok.ensures.files) fit) (gifts c' a) fresh)))
