-- A whole walk, from what was begun.
use Rattle.std.proofs.Common.{◌≡◌, ℕ, ◌≤◌, Option, List, [], Result, Ok, Err, ap, subst, ◌∙◌}
use Rattle.std.specs.Prelude.{IfOk, IfErr}
use Rattle.std.specs.declared.path.buf.PathBuf.{PathBuf}
use Rattle.glob_tree.specs.Answers.{IsTold}
use Rattle.glob_tree.specs.Content.{Content}
use Rattle.glob_walk.specs.Walks.{Mark, IsWalk, IsWalkAsked}
use Rattle.glob.specs.Private.Walking.{EndsAs}
use Rattle.glob_walk.specs.Iterating.{Walking}
use Rattle.glob_walk.specs.Machines.{Progress, HasGiven, IsFresh}
use Rattle.glob_walk.specs.declared.error.GlobError.{GlobError}
use Rattle.glob_walk.specs.declared.ending.End.{End}

-- a fact about a value, from another fact about it
pub if_ok : {X E : Type 0} (P Q : X → Type 0) (r : Result X E) → ((x : X) → P x → Q x) → IfOk r P → IfOk r Q
if_ok P Q (Ok x) f h = f x h
if_ok P Q (Err e) f h = tt

pub if_err : {X E : Type 0} (P Q : E → Type 0) (r : Result X E) → ((e : E) → P e → Q e) → IfErr r P → IfErr r Q
if_err P Q (Ok x) f h = tt
if_err P Q (Err e) f h = f e h

-- a fact that holds if there is a value, applied to one
pub of_ok : {X E : Type 0} (P : X → Type 0) (r : Result X E) (x : X) → r ≡ Ok x → IfOk r P → P x
of_ok P r x is h = subst (λ s. IfOk s P) is h

pub of_err : {X E : Type 0} (P : E → Type 0) (r : Result X E) (e : E) → r ≡ Err e → IfErr r P → P e
of_err P r e is h = subst (λ s. IfErr s P) is h

module _ {X A : Type 0} {P : Progress} (asks : X → ℕ) (tells : X → Option Content) (p : Walking X P) (e : End)
    (spent : ℕ) (answers : List (Result (PathBuf A) (GlobError A))) (last : X)
    (ends : EndsAs asks tells p e spent answers last) (tree : X) (limit : ℕ) (of : p.tree ≡ tree) (fresh : IsFresh limit p.machine) where
  pub begun_within : spent ≤ limit
  begun_within = subst (λ n. spent ≤ n) fresh.limit ends.within

  pub begun_asked : IsWalkAsked limit (asks tree) e spent (asks last)
  begun_asked = subst (λ t. IsWalkAsked limit (asks t) e spent (asks last)) of
      (subst (λ n. IsWalkAsked n (asks p.tree) e spent (asks last)) fresh.limit ends.asked)

  pub begun_told : tells last ≡ tells tree
  begun_told = ends.content ∙ ap tells of

  pub begun_walk : (c : Content) → IsTold (tells tree) c → (ms : List Mark) → HasGiven ms c [] p.machine → IsWalk ms limit e spent answers
  begun_walk c told ms begun = subst (λ n. IsWalk ms n e spent answers) fresh.limit (ends.walk c (ap tells of ∙ told.0, told.1) ms begun)
