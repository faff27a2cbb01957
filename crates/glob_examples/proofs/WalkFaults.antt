-- Why not all paths of a walk are known.
use Rattle.std.proofs.Common.{◌≡◌, inl, inr, ℕ, true, List, [], Contains, Option, Some, Result, Err, refl, sym, ap, subst, ◌∙◌, arith}
use Rattle.std.specs.declared.path.buf.PathBuf.{PathBuf}
use Rattle.std.specs.IoError.{error_kind}
use Rattle.glob.specs.Answers.{IsTold}
use Rattle.glob.specs.Content.{Content}
use Rattle.glob.specs.Goal.{is_plain}
use Rattle.glob.specs.GlobErrors.{path_of, error_of, cause_of}
use Rattle.glob.specs.Walks.{listing, Item, items, Unread as UnreadItem, Answers, AreItems, Gives, error_outcome}
use Rattle.glob.specs.Matching.Options.{new_options}
use Rattle.glob.specs.Text.{Text}
use Rattle.glob.specs.Types.{GlobCause, GlobError}
use Rattle.glob.specs.Variants.GlobCause as cause
use Rattle.glob.specs.Iterating.{Goes, Walking}
use Rattle.glob.specs.Machines.{Progress, HasGiven, IsFresh, Says, next_saying}
use Rattle.glob.proofs.FoundPaths.{FindsSoFar, FindsSoFar-limit, FindsSoFar-unread, item-answered}
use Rattle.glob_examples.specs.WalkFaults.{EndsAt, IsMet, IsPatternFault, IsWalkFault, fault_by_cause}
use Rattle.glob_examples.specs.declared.faults.WalkFault.{WalkFault}
use Rattle.glob_examples.specs.declared.faults.WalkFault.TheVariants.{Syntax, NotPlain, Limit, Memory, Unread}

module _ {A : Type 0} (pattern : Text) where
  -- a refusal of the pattern is a fault of the walk, over any tree
  pub IsWalkFault-pattern : (fault : WalkFault A) → IsPatternFault pattern fault → IsWalkFault pattern fault
  IsWalkFault-pattern (Syntax e) is = is
  IsWalkFault-pattern NotPlain is = is
  IsWalkFault-pattern Limit is = absurd is
  IsWalkFault-pattern Memory is = tt
  IsWalkFault-pattern (Unread e) is = absurd is

  pub IsMet-pattern : (c : Content) (limit : ℕ) (fault : WalkFault A) → IsPatternFault pattern fault → IsMet c pattern limit fault
  IsMet-pattern c limit (Syntax e) is = tt
  IsMet-pattern c limit NotPlain is = tt
  IsMet-pattern c limit Limit is = absurd is
  IsMet-pattern c limit Memory is = tt
  IsMet-pattern c limit (Unread e) is = absurd is

  module _ (plain : is_plain pattern ≡ true) (e : GlobError A) where
    by_cause : (k : GlobCause) → cause_of e ≡ k → IsWalkFault pattern (fault_by_cause k e)
    by_cause cause.Read is = (plain, is)
    by_cause cause.Memory is = tt
    by_cause cause.Limit is = plain

    -- an error of a walk by a plain pattern is a fault of the walk
    pub IsWalkFault-error : (fault : WalkFault A) → fault ≡ fault_by_cause (cause_of e) e → IsWalkFault pattern fault
    IsWalkFault-error fault is = subst (IsWalkFault pattern) (sym is) (by_cause (cause_of e) refl)

  module _ (c : Content) (limit : ℕ) (e : GlobError A) where
    item_met : (k : GlobCause) (item : Item) → error_outcome k e ≡ Gives item →
        Contains (items (listing c new_options pattern)) item → IsMet c pattern limit (fault_by_cause k e)
    item_met cause.Read item is has =
        let same : UnreadItem (path_of e) (error_kind (error_of e)) ≡ item = cc in
        subst (Contains (items (listing c new_options pattern))) (sym same) has
    item_met cause.Memory item is has = tt
    item_met cause.Limit item is has = absurd (cc)

    -- an error among the answers of a whole walk satisfies `IsMet`
    pub IsMet-answer : (answers : Answers A) → AreItems answers (items (listing c new_options pattern)) → Contains answers (Err e)
        → (fault : WalkFault A) → fault ≡ fault_by_cause (cause_of e) e → IsMet c pattern limit fault
    IsMet-answer answers are has fault is =
        let answered = item-answered answers (items (listing c new_options pattern)) are (Err e) has in
        subst (IsMet c pattern limit) (sym is) (item_met (cause_of e) answered.0 answered.1 answered.2)

    module _ {X : Type 0} {P : Progress} (asks : X → ℕ) (tells : X → Option Content) (first now new : Walking X P)
        (found : List Text) (finds : FindsSoFar tells first now found)
        (fresh : IsFresh limit first.machine) (at_first : IsTold (tells first.tree) c)
        (begun : HasGiven (listing c new_options pattern) c [] first.machine) where
      next_met : (k : GlobCause) → Goes asks tells now (Says (error_outcome k e)) new → IsMet c pattern limit (fault_by_cause k e)
      next_met cause.Read goes =
          FindsSoFar-unread asks tells first now new found finds (path_of e) (error_kind (error_of e)) goes c at_first
          (listing c new_options pattern) begun
      next_met cause.Memory goes = tt
      next_met cause.Limit goes =
          let over = FindsSoFar-limit asks tells first now new found finds (path_of e) goes c at_first
          (listing c new_options pattern) begun in
          omega (arith, over, fresh.limit)

      -- the same for an error that `next` returned
      pub IsMet-next : (answer : Option (Result (PathBuf A) (GlobError A))) → answer ≡ Some (Err e) →
          Goes asks tells now (next_saying answer) new
          → (fault : WalkFault A) → fault ≡ fault_by_cause (cause_of e) e → IsMet c pattern limit fault
      IsMet-next answer some goes fault is =
          subst (IsMet c pattern limit) (sym is)
          (next_met (cause_of e) (subst (λ r. Goes asks tells now (next_saying r) new) some goes))

-- what ends a loop over a walk by a plain pattern is a fault of the walk
pub IsWalkFault-end : {A : Type 0} (pattern : Text) → is_plain pattern ≡ true →
    (item : Result (PathBuf A) (GlobError A)) (fault : WalkFault A) → EndsAt item fault → IsWalkFault pattern fault
IsWalkFault-end pattern plain item fault (inl memory) = subst (IsWalkFault pattern) (sym memory) tt
IsWalkFault-end pattern plain item fault (inr (e, error, is)) = IsWalkFault-error pattern plain e fault is

module _ {A : Type 0} (pattern : Text) (c : Content) (limit : ℕ) {X : Type 0} {P : Progress} (asks : X → ℕ)
    (tells : X → Option Content) (first now new : Walking X P) (found : List Text) (finds : FindsSoFar tells first now found)
    (fresh : IsFresh limit first.machine) (at_first : IsTold (tells first.tree) c)
    (begun : HasGiven (listing c new_options pattern) c [] first.machine) where
  -- it satisfies `IsMet`, if `next` returned the item
  pub IsMet-end : (answer : Option (Result (PathBuf A) (GlobError A))) (item : Result (PathBuf A) (GlobError A)) →
      answer ≡ Some item → Goes asks tells now (next_saying answer) new
      → (fault : WalkFault A) → EndsAt item fault → IsMet c pattern limit fault
  IsMet-end answer item some goes fault (inl memory) = subst (IsMet c pattern limit) (sym memory) tt
  IsMet-end answer item some goes fault (inr (e, error, is)) =
      IsMet-next pattern c limit e asks tells first now new found finds fresh at_first begun answer (some ∙ ap Some error) goes fault is
