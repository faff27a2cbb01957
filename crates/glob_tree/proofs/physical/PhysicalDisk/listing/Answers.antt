use Rattle.std.proofs.Common.{◌≡◌, sym, subst}
use Rattle.std.specs.Prelude.{option_and_then}
use Rattle.glob_tree.specs.Answers.{IsTold, IsListError, entries_of}
use Rattle.glob_tree.specs.Content.{list_result}
use Rattle.glob_tree.specs.Disks.{PhysicalModel, content_with_links}
use Rattle.glob_tree.specs.FileSystems.{IsHeld}
use Rattle.glob_tree.specs.Followed.{AreKindsSaid}
use Rattle.glob_tree.specs.declared.reading.Kinds.TheVariants.{LookedUp}
use Rattle.glob_tree.proofs.MemoryLemmas.Refusing.{fails_by}
use Rattle.glob_tree.proofs.SystemLemmas.Looking.{Sees-from_told}
use Rattle.glob_tree.proofs.physical.PhysicalDisk.listing.Goals as goal

pub returns-in_err-entries-clause-fails : goal.returns-in_err-entries-clause-fails
returns-in_err-entries-clause-fails g c = λ x told.
    let is = Sees-from_told c.self.inside.lookups.links c.self.inside.lookups.files x
    (subst (λ (d : PhysicalModel _). IsTold (option_and_then (content_with_links d.links) d.files) x) (sym c.self.view_is) told) in
    fails_by (IsListError (list_result x c.args.path.now)) c.from_residual.result c.in_err-entries.field-0.0 c.from_residual.ensures.1
    (subst (λ d. IsListError (list_result d c.args.path.now) c.in_err-entries.field-0.0) is.same
    (c.in_err-entries.ensures.fails is.f is.seen.0))

pub returns-in_err-entries-clause-unread : goal.returns-in_err-entries-clause-unread
returns-in_err-entries-clause-unread g c = λ f held.
    fails_by (IsListError (list_result f.content c.args.path.now)) c.from_residual.result c.in_err-entries.field-0.0
    c.from_residual.ensures.1
    (c.in_err-entries.ensures.fails f (subst (λ (d : PhysicalModel _). IsHeld d.files f) (sym c.self.view_is) held))

pub returns-clause-said : goal.returns-clause-said
returns-clause-said g c = λ f.
    subst (λ (d : PhysicalModel _). IsHeld d.files f → c.args.kinds ≡ LookedUp
    → AreKindsSaid d.links f c.args.path.now (list_result f.content c.args.path.now) (entries_of c.in_ok-entries.entries.items)
    (g.S.Strays.paths d.strays) (g.S.Strays.paths c.list.new.self.strays)) c.self.view_is
    (λ held looked. c.in_ok-entries.ensures.said f held looked)
