use Rattle.std.proofs.Common.{◌≡◌, ◌++◌, ◌∷◌, [], ap, sym, subst, ◌∙◌}
use Rattle.std.specs.Prelude.{IfOk}
use Rattle.glob_text.specs.Pieces.{pieces}
use Rattle.glob_search.proofs.EngineLemmas.Paths.{AreProper}
use Rattle.glob_search.proofs.AskingLemmas.{active-at}
use Rattle.glob_search.proofs.KeptLemmas.{left-out_above, left-out_last}
use Rattle.glob_search.proofs.PieceLemmas.{path-whole, proper-upto}
use Rattle.glob_search.proofs.directories.Directories.is_ignored.Goals.{in-Some, in-None}
use Rattle.glob_search.proofs.directories.Directories.is_ignored.Goals as goal

pub returns-clause-ignored : goal.returns-clause-ignored
returns-clause-ignored g c = λ a known same read.
    let path = c.args.path.now in
    let d = c.args.is_dir in
    let proper : AreProper (pieces path) = sym c.has_proper_names.ensures ∙ c.if-not-has_proper_names.false in
    let h = c.in_ok-descend.ensures.descends a known same proper read in
    elim c.match-branch-2.branch [
      | in-Some w ↦
          let stops = rw w.in-Some.is at h.stops in
          rw w.result-is (sym (left-out_above a path h.directory h.name h.more d proper h.whole h.at.kept stops.0 stops.2))
      | in-None w ↦
          let last : h.more ≡ [] = rw w.in-None.is at h.stops in
          let said = w.ignores.ensures.decides a h.directory h.name (active-at a known c.descend.new.self h.directory h.at)
          (proper-upto path h.directory h.name h.more proper h.whole)
          (path-whole path (h.directory ++ h.name ∷ []) (h.whole ∙ ap (λ ns. h.directory ++ h.name ∷ ns) last)) in
          rw w.result-is (subst (λ b. IfOk w.ignores.result (λ r. r ≡ b))
          (sym (left-out_last a path h.directory h.name h.more d proper h.whole h.at.kept last)) said)
    ]
