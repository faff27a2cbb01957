use Rattle.std.proofs.Common.{◌∙◌, ap, map, refl, string_bytes}
use Rattle.std.proofs.KnownBytes.{Keeps-refl}
use Rattle.glob_console.proofs.WritingLemmas.{OnErr-from}
use Rattle.globs.specs.Find.Aiming.{placed}
use Rattle.globs.specs.Find.Leads.{place_at}
use Rattle.globs.proofs.EachLemmas.{FindsPaths-at, FindsPaths-fault, if_ok, on_err, placed-names}
use Rattle.globs.proofs.find.find_led.Goals as goal

pub returns-in_err-led-clause-some : goal.returns-in_err-led-clause-some
returns-in_err-led-clause-some g c = OnErr-from _ (FindsPaths-fault _ _ _ _ _ _ _ 2 refl (Keeps-refl _))

pub returns-in_err-path-clause-some : goal.returns-in_err-path-clause-some
returns-in_err-path-clause-some g c = OnErr-from _ (FindsPaths-fault _ _ _ _ _ _ _ 2 refl (Keeps-refl _))

pub returns-in_err-tree-clause-some : goal.returns-in_err-tree-clause-some
returns-in_err-tree-clause-some g c = OnErr-from _ (FindsPaths-fault _ _ _ _ _ _ _ 2 refl (Keeps-refl _))

pub returns-in_err-is_directory-clause-some : goal.returns-in_err-is_directory-clause-some
returns-in_err-is_directory-clause-some g c = OnErr-from _ (FindsPaths-fault _ _ _ _ _ _ _ 2 refl (Keeps-refl _))

pub returns-in_err-texts-clause-some : goal.returns-in_err-texts-clause-some
returns-in_err-texts-clause-some g c = OnErr-from _ (FindsPaths-fault _ _ _ _ _ _ _ 2 refl (Keeps-refl _))

pub returns-in_err-names-clause-some : goal.returns-in_err-names-clause-some
returns-in_err-names-clause-some g c = OnErr-from _ (FindsPaths-fault _ _ _ _ _ _ _ 2 refl (Keeps-refl _))

pub returns-in_err-above-clause-some : goal.returns-in_err-above-clause-some
returns-in_err-above-clause-some g c = OnErr-from _ (FindsPaths-fault _ _ _ _ _ _ _ 2 refl (Keeps-refl _))

pub returns-in_err-list-clause-some : goal.returns-in_err-list-clause-some
returns-in_err-list-clause-some g c = OnErr-from _ (FindsPaths-fault _ _ _ _ _ _ _ 2 refl (Keeps-refl _))

pub returns-then-not-branch-clause-found : goal.returns-then-not-branch-clause-found
returns-then-not-branch-clause-found g c = FindsPaths-fault _ _ _ _ _ _ _ _ c.fault.ensures.status (Keeps-refl _)

pub returns-clause-found : goal.returns-clause-found
returns-clause-found g c =
    let lead = c.args.lead.now in
    let content_at = g.P.Places.content c.args.places.now in
    let texts_at = g.P.Places.texts c.args.places.now in
    let kinds_at = g.F.PathKinds.kinds c.args.files.now in
    let path = c.as_str.ensures.value ∙ c.in_ok-path.ensures in
    let above_at = g.P.Places.above c.args.places.now in
    let names = ap (map (λ n. n.now)) c.as_slice-2.ensures.value ∙ c.in_ok-above.ensures ∙ ap (map string_bytes) c.as_slice.ensures.value in
    if_ok c.run_find.result (λ status. FindsPaths-at _ _ _ _ _ _ _ _ _ _ _ _ _ _ _ _ status
    (c.is_directory.ensures ∙ c.in_ok-tree.ensures ∙ ap (content_at _) path ∙
    ap (λ v. content_at v.settings.follows (place_at v.directory lead)) c.options.view_is)
    (c.in_ok-texts.ensures ∙ ap texts_at path ∙ ap (λ v. texts_at (place_at v.directory lead)) c.options.view_is)
    (ap (kinds_at _) (path ∙ ap (λ v. place_at v.directory lead) c.options.view_is))
    (λ above put. placed-names c.args.options.now.settings.is_git (above_at (place_at c.args.options.now.directory lead)) _ above
    (λ known. names ∙ c.in_ok-names.ensures above
    (ap (λ p. placed c.options.inside.settings.is_git (above_at p)) path ∙
    ap (λ v. placed v.settings.is_git (above_at (place_at v.directory lead))) c.options.view_is ∙ known))
    put)
    c.in_ok-list.ensures
    (ap (map (λ p. p.now)) c.as_slice-3.ensures.value ∙ c.in_ok-led.ensures)) c.run_find.ensures.found

pub returns-clause-some : goal.returns-clause-some
returns-clause-some g c =
    let lead = c.args.lead.now in
    let content_at = g.P.Places.content c.args.places.now in
    let texts_at = g.P.Places.texts c.args.places.now in
    let kinds_at = g.F.PathKinds.kinds c.args.files.now in
    let path = c.as_str.ensures.value ∙ c.in_ok-path.ensures in
    let above_at = g.P.Places.above c.args.places.now in
    let names = ap (map (λ n. n.now)) c.as_slice-2.ensures.value ∙ c.in_ok-above.ensures ∙ ap (map string_bytes) c.as_slice.ensures.value in
    on_err c.run_find.result (FindsPaths-at _ _ _ _ _ _ _ _ _ _ _ _ _ _ _ _ _
    (c.is_directory.ensures ∙ c.in_ok-tree.ensures ∙ ap (content_at _) path ∙
    ap (λ v. content_at v.settings.follows (place_at v.directory lead)) c.options.view_is)
    (c.in_ok-texts.ensures ∙ ap texts_at path ∙ ap (λ v. texts_at (place_at v.directory lead)) c.options.view_is)
    (ap (kinds_at _) (path ∙ ap (λ v. place_at v.directory lead) c.options.view_is))
    (λ above put. placed-names c.args.options.now.settings.is_git (above_at (place_at c.args.options.now.directory lead)) _ above
    (λ known. names ∙ c.in_ok-names.ensures above
    (ap (λ p. placed c.options.inside.settings.is_git (above_at p)) path ∙
    ap (λ v. placed v.settings.is_git (above_at (place_at v.directory lead))) c.options.view_is ∙ known))
    put)
    c.in_ok-list.ensures
    (ap (map (λ p. p.now)) c.as_slice-3.ensures.value ∙ c.in_ok-led.ensures)) c.run_find.ensures.some
