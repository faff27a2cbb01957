use Rattle.std.proofs.Common.{refl, ap, sym, subst, ◌∙◌}
use Rattle.glob_tree.specs.FileSystems.{IsHeld, stat_found}
use Rattle.glob_tree.specs.Looks.{is_directory}
use Rattle.glob_tree.specs.declared.physical.Links.TheVariants.{Followed}
use Rattle.glob_tree.proofs.SystemLemmas.Finding.{found_looked, stat_looked}
use Rattle.glob_tree.proofs.SystemLemmas.Looking.{no_directory_links, no_hidden_files}
use Rattle.glob_tree.proofs.disk.FollowedLookupsReader.finds_dir.Goals as goal

pub returns-clause-said : goal.returns-clause-said
returns-clause-said g c = λ f held direct. (
  refl,
  c.is_dir.ensures
      ∙ ap is_directory (c.in_ok-look_of.ensures (stat_found f c.args.path.now)
      (c.stat.ensures.found f (subst (λ d. IsHeld d f) (sym c.self.view_is) held) direct))
      ∙ sym (found_looked (stat_found f c.args.path.now)),
)

pub returns-clause-directory : goal.returns-clause-directory
returns-clause-directory g c = λ f seen direct.
    c.is_dir.ensures
    ∙ ap is_directory (c.in_ok-look_of.ensures (stat_found f c.args.path.now)
    (c.stat.ensures.found f (subst (λ d. IsHeld d f) (sym c.self.view_is) seen.0) direct))
    ∙ sym (found_looked (stat_found f c.args.path.now))
    ∙ stat_looked f (no_directory_links f seen.1) (no_hidden_files Followed f seen.1) c.args.path.now
