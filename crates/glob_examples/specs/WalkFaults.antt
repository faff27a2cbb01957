-- When a fault may be reported for a walk.
use Rattle.std.specs.Prelude.{◌≡◌, ◌⊎◌, ℕ, ◌<◌, true, false, Contains, None, Result, Err, ⊤}
use Rattle.std.specs.declared.path.buf.PathBuf.{PathBuf}
use Rattle.std.specs.IoError.{error_kind}
use Rattle.glob.specs.Components.{walk_fault}
use Rattle.glob.specs.Content.{Content}
use Rattle.glob.specs.Goal.{is_plain}
use Rattle.glob.specs.GlobErrors.{path_of, error_of, cause_of}
use Rattle.glob.specs.Walks.{listing, Unread as UnreadItem, items, cost, RefusesWith}
use Rattle.glob.specs.Matching.Options.{new_options}
use Rattle.glob.specs.Text.{Text}
use Rattle.glob.specs.Types.{GlobCause, GlobError, PatternRefusal}
use Rattle.glob.specs.Variants.GlobCause as cause
use Rattle.glob.specs.Variants.PatternRefusal as refusal
use Rattle.glob_examples.specs.declared.faults.WalkFault.{WalkFault}
use Rattle.glob_examples.specs.declared.faults.WalkFault.TheVariants.{Syntax, NotPlain, Limit, Memory, Unread}

-- what a refusal of the pattern becomes
abbrev pub fault_of_refusal : {A : Type 0} → PatternRefusal → WalkFault A
fault_of_refusal (refusal.Syntax e) = Syntax e
fault_of_refusal refusal.Memory = Memory

-- what an error of a walk with this cause becomes
abbrev pub fault_by_cause : {A : Type 0} → GlobCause → GlobError A → WalkFault A
fault_by_cause cause.Read e = Unread e
fault_by_cause cause.Memory e = Memory
fault_by_cause cause.Limit e = Limit

-- what ends a loop over a walk at an item: an allocation failure, or an error in place of a path
abbrev pub EndsAt : {A : Type 0} → Result (PathBuf A) (GlobError A) → WalkFault A → Type 0
EndsAt {A = A} item fault = (fault ≡ Memory) ⊎ ((e : GlobError A) × (item ≡ Err e) × (fault ≡ fault_by_cause (cause_of e) e))

-- The fault may be why the pattern is refused: a syntax error, a failed allocation, or that it is not plain.
abbrev pub IsPatternFault : {A : Type 0} → (pattern : Text) → WalkFault A → Type 0
IsPatternFault pattern (Syntax e) = RefusesWith (walk_fault pattern) (refusal.Syntax e)
IsPatternFault pattern NotPlain = (walk_fault pattern ≡ None) × (is_plain pattern ≡ false)
IsPatternFault pattern Limit = ⊥
IsPatternFault pattern Memory = ⊤
IsPatternFault pattern (Unread e) = ⊥

-- A walk by the pattern may fail with the fault: the pattern is refused; or the pattern is plain, and the limit, an
-- allocation failure, or a directory that cannot be listed ends the walk.
abbrev pub IsWalkFault : {A : Type 0} → (pattern : Text) → WalkFault A → Type 0
IsWalkFault pattern (Syntax e) = RefusesWith (walk_fault pattern) (refusal.Syntax e)
IsWalkFault pattern NotPlain = (walk_fault pattern ≡ None) × (is_plain pattern ≡ false)
IsWalkFault pattern Limit = is_plain pattern ≡ true
IsWalkFault pattern Memory = ⊤
IsWalkFault pattern (Unread e) = (is_plain pattern ≡ true) × (cause_of e ≡ cause.Read)

-- Over a tree with this content, the limit is reported only if it is too low, and a directory that could not be listed
-- only if the walk reaches it.
abbrev pub IsMet : {A : Type 0} → Content → (pattern : Text) → (limit : ℕ) → WalkFault A → Type 0
IsMet c pattern limit Limit = limit < cost (listing c new_options pattern)
IsMet c pattern limit (Unread e) =
    Contains (items (listing c new_options pattern)) (UnreadItem (path_of e) (error_kind (error_of e)))
IsMet c pattern limit (Syntax e) = ⊤
IsMet c pattern limit NotPlain = ⊤
IsMet c pattern limit Memory = ⊤
