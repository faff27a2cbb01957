use Rattle.std.proofs.Common.{rules, ◌≡◌, ◌++◌, ◌∷◌, [], Some, string_bytes, refl, ap, sym, ◌∙◌}
use Rattle.std.specs.List.{join_with_byte}
use Rattle.glob_text.specs.Characters.{slash}
use Rattle.glob_text.specs.Pieces.{pieces}
use Rattle.glob_tree.specs.Paths.{join}
use Rattle.glob_search.specs.Private.Entering.{names_to}
use Rattle.glob_search.proofs.EngineLemmas.Paths.{join-next}
use Rattle.glob_search.proofs.AskingLemmas.{active-at, last-path}
use Rattle.glob_search.proofs.KeptLemmas.{kept-next}
use Rattle.glob_search.proofs.PieceLemmas.{proper-upto, some-pieces}
use Rattle.std.proofs.lemmas.List.{append_assoc}
use Rattle.glob_search.proofs.directories.Directories.enter_above.Goals as goal

pub loop-name-init : goal.loop-name-init
loop-name-init g c = (
  c.leave-rest.utf8,
  record {
    files = c.in_ok-enter_start.ensures.files ∙ c.leave-rest.ensures.files;
    first = c.in_ok-enter_start.ensures.first ∙ c.leave-rest.ensures.first;
    outer = c.in_ok-enter_start.ensures.outer ∙ c.leave-rest.ensures.outer;
    texts = c.in_ok-enter_start.ensures.texts;
    at = λ a known same proper read.
        let l = c.leave-rest.ensures.left a known read.last read.at in (
          names_to l.last,
          c.in_ok-enter_start.ensures.starts a known l.last same l.at,
          l.whole,
        );
  },
)

pub returns-then-branch-clause-descends : goal.returns-then-branch-clause-descends
returns-then-branch-clause-descends g c = λ a known same proper read.
    let s = c.loop-name.self in
    let (directory, at, whole) = c.loop-name.invariant.1.at a known same proper read in
    let name = c.in-Some.name.now in
    let more = pieces c.in-Some.deeper.now in
    let cut : pieces c.args.path.now ≡ directory ++ name ∷ more = whole ∙ ap (λ ps. directory ++ ps) c.in-Some.ensures.cut in
    let text : string_bytes c.in_ok-directory.directory ≡ join_with_byte slash (directory ++ name ∷ []) =
    c.in_ok-directory.ensures ∙ ap (λ d. join d name) (c.last_path.ensures ∙ last-path a known s directory at)
    ∙ join-next directory name at.proper in
    record {
      directory = directory;
      name = name;
      more = more;
      whole = cut;
      at = at;
      stops = (
        some-pieces c.in-Some.deeper.now,
        text,
        sym (c.in_ok-ignores.ensures.decides a directory name (active-at a known s directory at)
            (proper-upto c.args.path.now directory name more proper cut) (c.as_str.ensures.value ∙ text)) ∙ c.if-branch.true,
      );
    }

pub loop-name-preserved : goal.loop-name-preserved
loop-name-preserved g c = (
  search rules,
  record {
    files = c.in_ok-enter.ensures.files ∙ c.loop-name.invariant.1.files;
    first = c.in_ok-enter.ensures.first ∙ c.loop-name.invariant.1.first;
    outer = c.in_ok-enter.ensures.outer ∙ c.loop-name.invariant.1.outer;
    texts = c.in_ok-enter.ensures.texts ∙ c.loop-name.invariant.1.texts;
    at = λ a known same proper read.
        let s = c.loop-name.self in
        let (directory, at, whole) = c.loop-name.invariant.1.at a known same proper read in
        let name = c.in-Some.name.now in
        let more = pieces c.in-Some.deeper.now in
        let cut : pieces c.args.path.now ≡ directory ++ name ∷ more = whole ∙ ap (λ ps. directory ++ ps) c.in-Some.ensures.cut in
        let text : string_bytes c.in_ok-directory.directory ≡ join_with_byte slash (directory ++ name ∷ []) =
        c.in_ok-directory.ensures ∙ ap (λ d. join d name) (c.last_path.ensures ∙ last-path a known s directory at)
        ∙ join-next directory name at.proper in
        let all = proper-upto c.args.path.now directory name more proper cut in
        let not_ignored = sym
        (c.in_ok-ignores.ensures.decides a directory name (active-at a known s directory at) all (c.as_str.ensures.value ∙ text))
        ∙ c.if-branch.false in (
          directory ++ name ∷ [],
          c.in_ok-enter.ensures.enters a known (Some directory) (directory ++ name ∷ []) (c.loop-name.invariant.1.texts ∙ same) at
              (name, refl) text all
              (kept-next a directory name at.kept not_ignored),
          cut ∙ sym (append_assoc directory (name ∷ []) more),
        );
  },
)

pub returns-clause-descends : goal.returns-clause-descends
returns-clause-descends g c = λ a known same proper read.
    let (directory, at, whole) = c.loop-name.invariant.1.at a known same proper read in
    record {
      directory = directory;
      name = c.loop-name.rest.now;
      more = [];
      whole = whole ∙ ap (λ ps. directory ++ ps) (rw c.in_default.is at c.first_name.ensures.cut);
      at = at;
      stops = refl;
    }
