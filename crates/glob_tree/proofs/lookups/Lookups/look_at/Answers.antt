use Rattle.std.proofs.Common.{◌≡◌, true, not, ◌&&◌, cond, refl, ap, sym, subst, ◌∙◌}
use Rattle.std.specs.Prelude.{is_some}
use Rattle.glob_tree.specs.FileSystems.{IsHeld, lstat_found, stat_found}
use Rattle.glob_tree.specs.Followed.{points_back}
use Rattle.glob_tree.specs.Private.Looking.{IsFoundAs, IsLinkSaid, IsLookedUp, has_places}
use Rattle.glob_tree.specs.declared.physical.Links.TheVariants.{Followed}
use Rattle.glob_tree.specs.declared.tree.Look.TheVariants as look
use Rattle.glob_tree.proofs.SystemLemmas.Looking.{look_nothing, look_something, look_link, link_found, no_directory_there, no_found}
use Rattle.glob_tree.proofs.SystemLemmas.Reporting.{said_nothing, said_link, said_something}
use Rattle.glob_tree.proofs.lookups.Lookups.look_at.Goals as goal

pub returns-in-None-clause-seen : goal.returns-in-None-clause-seen
returns-in-None-clause-seen g c = λ f seen direct.
    look_nothing c.args.self.now.links f seen.1 c.args.path.now (subst (IsFoundAs (lstat_found f c.args.path.now)) c.in-None.is
    (c.in_ok-found.ensures.found f seen.0 direct))

pub returns-in-None-clause-said : goal.returns-in-None-clause-said
returns-in-None-clause-said g c = λ f held direct.
    said_nothing c.args.self.now.links f c.args.path.now _ _
    (subst (IsFoundAs (lstat_found f c.args.path.now)) c.in-None.is (c.in_ok-found.ensures.found f held direct))
    (c.in_ok-found.ensures.reported f held direct)

pub returns-in_ok-leads_on-in-Some-clause-seen : goal.returns-in_ok-leads_on-in-Some-clause-seen
returns-in_ok-leads_on-in-Some-clause-seen g c = λ f seen direct.
    let both = c.if-is_followed.ensures.yes refl in
    let here = subst (IsFoundAs (lstat_found f c.args.path.now)) c.in-Some.is (c.in_ok-found.ensures.found f seen.0 direct) in
    let link = link_found f c.args.path.now c.in-Some.found here both.1 in
    let places = subst (λ l. has_places l f ≡ true) (sym c.found.ensures.links ∙ both.0) seen.1 in
    let non = no_found (stat_found f c.args.path.now) (no_directory_there f c.args.path.now places link) in
    let said = c.in_ok-leads_on-in-Some.ensures.leads f (subst (λ o. IsHeld o f) (sym c.found.ensures.files) seen.0) direct in
    let none = said.0 ∙ ap (λ b. b && not (points_back f c.args.path.now)) non in
    c.look_for.ensures ∙ ap (λ b. cond b look.Dir look.Other) none ∙ look_link c.args.self.now.links f seen.1 c.args.path.now link

pub returns-in_ok-leads_on-in-Some-clause-said : goal.returns-in_ok-leads_on-in-Some-clause-said
returns-in_ok-leads_on-in-Some-clause-said g c = λ f held direct.
    let path = c.args.path.now in
    let old = g.S.Strays.paths c.args.self.now.strays in
    let new = g.S.Strays.paths c.leads_on.new.self.strays in
    let leads = c.in_ok-leads_on-in-Some.field-0 in
    let both = c.if-is_followed.ensures.yes refl in
    let here = subst (IsFoundAs (lstat_found f path)) c.in-Some.is (c.in_ok-found.ensures.found f held direct) in
    let link = link_found f path c.in-Some.found here both.1 in
    let said = subst (λ mid. IsLinkSaid f path leads mid new) (c.in_ok-found.ensures.known (ap is_some c.in-Some.is))
    (c.in_ok-leads_on-in-Some.ensures.leads f (subst (λ o. IsHeld o f) (sym c.found.ensures.files) held) direct) in
    subst (λ l. IsLookedUp l f path c.look_for.result old new) (sym (sym c.found.ensures.links ∙ both.0))
    (subst (λ s. IsLookedUp Followed f path s old new) (sym c.look_for.ensures) (said_link f path leads old new link said))

pub returns-in-Some-2-clause-seen : goal.returns-in-Some-2-clause-seen
returns-in-Some-2-clause-seen g c = λ f seen direct.
    let here = subst (IsFoundAs (lstat_found f c.args.path.now)) c.in-Some.is (c.in_ok-found.ensures.found f seen.0 direct) in
    c.look_for-in-Some-2.ensures ∙ look_something c.args.self.now.links f seen.1 c.args.path.now c.in-Some.found c.is_dir.result here
    (λ t. c.is_dir.ensures.0 t) (λ d. c.is_dir.ensures.1 d)

pub returns-in-Some-2-clause-said : goal.returns-in-Some-2-clause-said
returns-in-Some-2-clause-said g c = λ f held direct.
    let path = c.args.path.now in
    let old = g.S.Strays.paths c.args.self.now.strays in
    let new = g.S.Strays.paths c.found.new.self.strays in
    let here = subst (IsFoundAs (lstat_found f path)) c.in-Some.is (c.in_ok-found.ensures.found f held direct) in
    subst (λ s. IsLookedUp c.args.self.now.links f path s old new) (sym c.look_for-in-Some-2.ensures)
    (said_something c.args.self.now.links f path c.in-Some.found c.is_dir.result old new here
    (λ links. c.if-is_followed.ensures.no refl (c.found.ensures.links ∙ links)) (λ t. c.is_dir.ensures.0 t)
    (λ d. c.is_dir.ensures.1 d) (c.in_ok-found.ensures.known (ap is_some c.in-Some.is)))
