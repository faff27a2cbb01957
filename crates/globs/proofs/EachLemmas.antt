-- One search after another.
use Rattle.std.proofs.Common.{◌≡◌, ◌∙◌, ◌==◌, ℕ, Bool, true, false, ◌||◌, Option, Some, List, [], ◌∷◌, ◌++◌, Result, Ok}
use Rattle.std.proofs.Common.{Err, IfOk, OnErr, ap, cond, map, refl, subst, sym}
use Rattle.std.specs.List.{list_any}
use Rattle.std.specs.Io.KnownBytes.{Keeps}
use Rattle.std.proofs.KnownBytes.{Keeps-refl}
use Rattle.glob_console.proofs.WritingLemmas.{AppendsFront-none}
use Rattle.glob_rules.specs.Lists.{Ignores}
use Rattle.glob_text.specs.Text.{Text}
use Rattle.glob_tree.specs.Content.{Content, Key}
use Rattle.globs.specs.Chosen.{Chosen}
use Rattle.globs.specs.Find.Aiming.{placed}
use Rattle.globs.specs.Find.Leads.{led}
use Rattle.globs.specs.Find.Outcomes.{Disk, FindsAll, FindsEach, FindsPaths, Known, known_at}
use Rattle.globs.specs.Find.Writing.{status_of}
use Rattle.globs.specs.declared.find.kinds.PathKind.{PathKind}
use Rattle.globs.specs.declared.find.searching.Findings.{Findings}
use Rattle.globs.proofs.SearchedLemmas.{WritesGifts-fault}

or_nil : (b : Bool) → (b || false) ≡ b
or_nil true = refl
or_nil false = refl

or_push : (a b c d : Bool) → d ≡ (b || c) → (a || d) ≡ ((a || b) || c)
or_push true b c d e = refl
or_push false b c d e = e

or_true : (a b : Bool) → b ≡ true → (a || b) ≡ true
or_true true b e = refl
or_true false b e = e

-- one more status
any_push : (p : ℕ → Bool) (ss : List ℕ) (s : ℕ) → list_any p (ss ++ s ∷ []) ≡ (list_any p ss || p s)
any_push p [] s = or_nil (p s)
any_push p (x ∷ ss) s = or_push (p x) (list_any p ss) (p s) (list_any p (ss ++ s ∷ [])) (any_push p ss s)

-- a status among others
any_at : (p : ℕ → Bool) (ss ts : List ℕ) (s : ℕ) → p s ≡ true → list_any p (ss ++ s ∷ ts) ≡ true
any_at p [] ts s is = ap (λ b. b || list_any p ts) is
any_at p (x ∷ ss) ts s is = or_true (p x) (list_any p (ss ++ s ∷ ts)) (any_at p ss ts s is)

-- a search that was refused or not begun
pub FindsPaths-fault : (known : Known) (o : Chosen) (list : Ignores) (lead : Text) (patterns : List Text)
    (old new : Option (List ℕ)) (status : ℕ)
    → status ≡ 2 → Keeps old new → FindsPaths known o list lead patterns old new status
unfolding FindsPaths
FindsPaths-fault known o list lead patterns old new status is same = λ c text_at keeps above told heed keep put fit.
    WritesGifts-fault lead o.settings.end _ old new status is (AppendsFront-none old new _ same)

-- the same names above are known, if they matter
FindsPaths-above : (known : Known) (above : Option Key) (o : Chosen) (list : Ignores) (lead : Text) (patterns : List Text)
    (old new : Option (List ℕ)) (status : ℕ)
    → ((names : Key) → placed o.settings.is_git above ≡ Some names → placed o.settings.is_git known.above ≡ Some names)
    → FindsPaths known o list lead patterns old new status → FindsPaths (record known { above = above }) o list lead patterns old new status
unfolding FindsPaths
FindsPaths-above known above o list lead patterns old new status same finds = λ c text_at keeps names told heed keep put.
    finds c text_at keeps names told heed keep (same names put)

-- names that are the known ones, if they matter
pub placed-names : (git : Bool) (known : Option Key) (names above : Key) → (placed git known ≡ Some above → names ≡ above)
    → placed git known ≡ Some above → placed git (Some names) ≡ Some above
placed-names true known names above same put = ap Some (same put)
placed-names false known names above same put = put

-- the same is known, and asked for
pub FindsPaths-at : (o : Chosen) (lead : Text) (content content' : Option Content)
    (texts texts' : Option (Text → Option Text)) (kinds kinds' : Option (Text → PathKind))
    (above above' : Option Key) (list list' : Ignores) (patterns patterns' : List Text) (old new : Option (List ℕ)) (status : ℕ)
    → content ≡ content' → texts ≡ texts' → kinds ≡ kinds'
    → ((names : Key) → placed o.settings.is_git above' ≡ Some names → placed o.settings.is_git above ≡ Some names)
    → list ≡ list' → patterns ≡ patterns'
    → FindsPaths (record { content = content; texts = texts; kinds = kinds; above = above }) o list lead patterns old new status
    → FindsPaths (record { content = content'; texts = texts'; kinds = kinds'; above = above' }) o list' lead patterns' old new status
FindsPaths-at o lead content content' texts texts' kinds kinds' above above' list list' patterns patterns' old new
    status a b d placed-at e f finds =
    subst (λ x. FindsPaths (record { content = x; texts = texts'; kinds = kinds'; above = above' }) o list' lead patterns' old new status) a
    (subst (λ x. FindsPaths (record { content = content; texts = x; kinds = kinds'; above = above' }) o list' lead
    patterns' old new status) b
    (subst (λ x. FindsPaths (record { content = content; texts = texts; kinds = x; above = above' }) o list' lead
    patterns' old new status) d
    (subst (λ x. FindsPaths (record { content = content; texts = texts; kinds = kinds; above = above' }) o x lead
    patterns' old new status) e
    (subst (λ x. FindsPaths (record { content = content; texts = texts; kinds = kinds; above = above' }) o list lead x old new status) f
    (FindsPaths-above (record { content = content; texts = texts; kinds = kinds; above = above }) above' o list lead patterns old new status
    placed-at finds)))))

pub if_ok : {E : Type 0} {P Q : ℕ → Type 0} (r : Result ℕ E) → ((status : ℕ) → P status → Q status) → IfOk r P → IfOk r Q
if_ok (Ok status) f held = f status held
if_ok (Err e) f held = tt

pub on_err : {T E P Q : Type 0} (r : Result T E) → (P → Q) → OnErr r P → OnErr r Q
on_err (Ok x) f held = tt
on_err (Err e) f held = f held

module _ (disk : Disk) (o : Chosen) (list : Ignores) (patterns : List Text) where
  -- a search for a lead
  abbrev Finds-at : (lead : Text) → (old new : Option (List ℕ)) → (status : ℕ) → Type 0
  Finds-at lead old new status = FindsPaths (known_at disk o lead) o list lead (led lead patterns) old new status

  abbrev Each : (leads : List Text) → (statuses : List ℕ) → (old new : Option (List ℕ)) → Type 0
  Each leads statuses old new = FindsEach disk o list patterns leads statuses old new

  -- searches, and others after them
  each_both : (ls ms : List Text) (ss ts : List ℕ) (old mid new : Option (List ℕ)) → Each ls ss old mid →
      Each ms ts mid new → Each (ls ++ ms) (ss ++ ts) old new
  unfolding FindsEach
  each_both [] ms [] ts old mid new first second = subst (λ x. Each ms ts x new) first second
  each_both [] ms (s ∷ ss) ts old mid new first second = absurd first
  each_both (l ∷ ls) ms [] ts old mid new first second = absurd first
  each_both (l ∷ ls) ms (s ∷ ss) ts old mid new (next, finds, first) second = (next, finds, each_both ls ms ss ts next mid new first second)

  -- one search
  each_one : (lead : Text) (status : ℕ) (old new : Option (List ℕ)) → Finds-at lead old new status → Each (lead ∷ []) (status ∷ []) old new
  unfolding FindsEach
  each_one lead status old new finds = (new, finds, refl)

  -- searches that were not begun
  unbegun : (ls : List Text) (known : Option (List ℕ)) → Each ls (map (λ l. 2) ls) known known
  unfolding FindsEach
  unbegun [] known = refl
  unbegun (l ∷ ls) known = (known, FindsPaths-fault _ o list l (led l patterns) known known 2 refl (Keeps-refl known), unbegun ls known)

  -- the searches for some leads, and what was found
  abbrev pub AreSearched : (leads : List Text) → Findings → (old new : Option (List ℕ)) → Type 0
  AreSearched leads findings old new =
      (statuses : List ℕ) × Each leads statuses old new × (findings.has_fault ≡ list_any (λ s. s == 2) statuses)
      × (findings.has_path ≡ list_any (λ s. s == 0) statuses)

  pub searched_none : (findings : Findings) (known : Option (List ℕ)) → findings.has_path ≡ false → findings.has_fault ≡
      false → AreSearched [] findings known known
  unfolding FindsEach
  searched_none findings known path fault = ([], refl, fault, path)

  -- one more search
  pub searched_more : (ls more : List Text) (l : Text) (f f' : Findings) (s : ℕ) (old mid new : Option (List ℕ)) → ls ++ l ∷ [] ≡ more
      → AreSearched ls f old mid → Finds-at l mid new s → f'.has_fault ≡ (f.has_fault || s == 2) → f'.has_path ≡ (f.has_path || s == 0)
      → AreSearched more f' old new
  searched_more ls more l f f' s old mid new are (ss, each, fault, path) finds fault' path' = (
    ss ++ s ∷ [],
    subst (λ x. Each x (ss ++ s ∷ []) old new) are (each_both ls (l ∷ []) ss (s ∷ []) old mid new each (each_one l s mid new finds)),
    fault' ∙ ap (λ b. b || s == 2) fault ∙ sym (any_push (λ x. x == 2) ss s),
    path' ∙ ap (λ b. b || s == 0) path ∙ sym (any_push (λ x. x == 0) ss s),
  )

  -- all were searched
  pub searched_all : (leads ls : List Text) (f : Findings) (old new : Option (List ℕ)) → ls ≡ leads → AreSearched ls f old new
      → FindsAll disk o list patterns leads old new (status_of f)
  unfolding FindsAll
  searched_all leads ls f old new are (ss, each, fault, path) = (
    ss,
    subst (λ x. Each x ss old new) are each,
    ap (λ b. cond b 2 (cond f.has_path 0 1)) fault ∙ ap (λ b. cond (list_any (λ s. s == 2) ss) 2 (cond b 0 1)) path,
  )

  -- a search was the last one, and the searches after it were not begun
  pub searched_cut : (leads ls : List Text) (l : Text) (ms : List Text) (f : Findings) (old mid new : Option (List ℕ)) →
      leads ≡ ls ++ l ∷ ms → AreSearched ls f old mid
      → Finds-at l mid new 2 → FindsAll disk o list patterns leads old new 2
  unfolding FindsAll FindsEach
  searched_cut leads ls l ms f old mid new are (ss, each, _, _) finds =
      let ts : List ℕ = 2 ∷ map (λ m. 2) ms in
      let after : Each (l ∷ ms) ts mid new = (new, finds, unbegun ms new) in (
        ss ++ ts,
        subst (λ x. Each x (ss ++ ts) old new) (sym are) (each_both ls (l ∷ ms) ss ts old mid new each after),
        sym (ap (λ b. cond b 2 (cond (list_any (λ s. s == 0) (ss ++ ts)) 0 1)) (any_at (λ s. s == 2) ss (map (λ m. 2) ms) 2 refl)),
      )
