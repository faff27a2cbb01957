-- Each path and each fault that a search gives leaves less to come.
use Rattle.std.proofs.Common.{◌≡◌, ℕ, ◌+◌, ◌<◌, ◌≤◌, true, false, List, [], ◌∷◌, ◌++◌, length, Option, None, Some}
use Rattle.std.proofs.Common.{Bool, Result, Ok, Err, get_or, map, refl, ap, sym, subst, ◌∙◌, arith}
use Rattle.std.specs.Prelude.{Contains, IfErr, OnOk, String, string_bytes, sum_by, vec_len}
use Rattle.std.proofs.lemmas.Bool.{false≢true}
use Rattle.std.proofs.lemmas.List.{get_or-map, length-append, length-map}
use Rattle.std.proofs.lemmas.List.Elements.{Contains-get_or}
use Rattle.std.proofs.lemmas.List.Sums.{sum_by-append}
use Rattle.glob_text.specs.Text.{Text}
use Rattle.glob_search.specs.States.{FitsFiles, is_last}
use Rattle.glob_search.specs.Private.Faults.{IsOfListing, IsOfRules}
use Rattle.glob_search.specs.Private.Steps.{MayEnter, NextWork}
use Rattle.glob_search.specs.Private.Ways.{IsDone}
use Rattle.glob_search.specs.Private.Weights.{Takes, last_left, stock, unmet, work_stock}
use Rattle.glob_search.specs.declared.fault.SearchFault.{SearchFault}
use Rattle.glob_search.specs.declared.fault.SearchFault.TheVariants as fault
use Rattle.glob_search.specs.declared.frame.Frame.{Frame}
use Rattle.glob_search.specs.declared.frame.Opening.{Opening}
use Rattle.glob_search.specs.declared.meter.Meter.{Meter}
use Rattle.glob_search.specs.declared.way.Way.{Way}
use Rattle.glob_search.specs.declared.way.Work.{Work}
use Rattle.glob_search.specs.declared.way.Work.TheVariants.{Enter, Read, Meet, Leave}
use Rattle.glob_search.proofs.EngineLemmas.Passing.{no-items}

pub last_left-most : {A : Type 0} (o : Option (Opening A)) (fs : List (Frame A)) → last_left o fs ≤ 1
last_left-most (Some o) fs = omega arith
last_left-most None [] = omega arith
last_left-most None (f ∷ fs) = omega arith

last_left-some : {A : Type 0} (o : Option (Opening A)) (front rest : List (Frame A)) (f : Frame A) → last_left o (front ++ f ∷ rest) ≡ 1
last_left-some (Some o) front rest f = refl
last_left-some None [] rest f = refl
last_left-some None (g ∷ front) rest f = refl

last_left-at : {A : Type 0} (o : Option (Opening A)) (fs front : List (Frame A)) (f : Frame A) → fs ≡ front ++ f ∷ [] → last_left o fs ≡ 1
last_left-at o fs front f is = ap (last_left o) is ∙ last_left-some o front [] f

-- nothing is left if nothing is left to do
pub done-left : {A : Type 0} (w : Way A) → IsDone w → (last_left w.entering w.frames.items ≡ 0) × (unmet w ≡ 0)
done-left {A} w (free, none) =
    let fs = no-items w.frames none in (
      ap (λ fs. last_left w.entering fs) fs ∙ ap (λ (o : Option (Opening A)). last_left o []) free,
      ap (λ (fs : List (Frame A)). sum_by (λ f. vec_len f.entries) fs) fs,
    )

-- the entries of the last directory, and of the directories above it
unmet-last : {A : Type 0} (fs front : List (Frame A)) (f : Frame A) → fs ≡ front ++ f ∷ []
    → sum_by (λ (g : Frame A). vec_len g.entries) fs ≡ sum_by (λ (g : Frame A). vec_len g.entries) front + vec_len f.entries
unmet-last {A} fs front f is =
    ap (sum_by (λ (g : Frame A). vec_len g.entries)) is ∙ sum_by-append (λ (g : Frame A). vec_len g.entries) front (f ∷ []) ∙ omega arith

module _ {A : Type 0} (files : List Text) (old new : Way A) where
  -- while there is something to do, a last fault may come
  pub next-last : (work : Work A) → NextWork files old (Some work) new → last_left old.entering old.frames.items ≡ 1
  next-last (Enter o) next = ap (λ (x : Option (Opening A)). last_left x old.frames.items) next.0
  next-last (Read n) next = last_left-at old.entering old.frames.items next.goes.front next.last next.goes.before
  next-last (Meet e) next = last_left-at old.entering old.frames.items next.goes.front next.last next.goes.before
  next-last (Leave n) next = last_left-at old.entering old.frames.items new.frames.items next.last next.before

  -- an entry that is met was counted
  pub next-unmet : (work : Work A) → NextWork files old (Some work) new → unmet new + work_stock work ≡ unmet old
  next-unmet (Enter o) next =
      let same : unmet new ≡ unmet old = ap (sum_by (λ (g : Frame A). vec_len g.entries)) next.2 in
      omega (arith, same)
  next-unmet (Read n) next =
      let same : vec_len next.passed.entries ≡ vec_len next.last.entries = ap (λ (f : Frame A). vec_len f.entries) next.next.0.same in
      let before = unmet-last old.frames.items next.goes.front next.last next.goes.before in
      let after = unmet-last new.frames.items next.goes.front next.passed next.goes.after in
      omega (arith, same, before, after)
  next-unmet (Meet e) next =
      let same : vec_len next.passed.entries ≡ vec_len next.last.entries = ap (λ (f : Frame A). vec_len f.entries) next.next.0.same in
      let before = unmet-last old.frames.items next.goes.front next.last next.goes.before in
      let after = unmet-last new.frames.items next.goes.front next.left next.goes.after in
      let more = ap length next.entry ∙ length-append next.left.entries.items (e ∷ []) in
      omega (arith, same, before, after, more, next.passed.entries.ok.0, next.left.entries.ok.0)
  next-unmet (Leave n) next =
      let before = unmet-last old.frames.items new.frames.items next.last next.before in
      omega (arith, before, ap length next.none, next.last.entries.ok.0)

-- a fault of a listing is not a fault of rules, and it was paid for
pub listing-fits : {A : Type 0} (files : List Text) (m n : ℕ) (f : SearchFault A) → IsOfListing m n f → FitsFiles files f
listing-fits files m n (fault.Unread path e) h = tt
listing-fits files m n (fault.UnreadRules path e) h = absurd h
listing-fits files m n (fault.RefusedRules path refusals) h = absurd h
listing-fits files m n fault.Limit h = tt
listing-fits files m n fault.Memory h = tt

listing-paid : {A : Type 0} (m n : ℕ) (f : SearchFault A) → IsOfListing m n f → is_last f ≡ false → m < n
listing-paid m n (fault.Unread path e) h goes = h
listing-paid m n (fault.UnreadRules path e) h goes = absurd h
listing-paid m n (fault.RefusedRules path refusals) h goes = absurd h
listing-paid m n fault.Limit h goes = absurd (false≢true (sym goes))
listing-paid m n fault.Memory h goes = absurd (false≢true (sym goes))

pub rules-fit : {A : Type 0} (files : List Text) (f : SearchFault A) → IsOfRules files f → FitsFiles files f
rules-fit files (fault.Unread path e) h = tt
rules-fit files (fault.UnreadRules path e) h = h
rules-fit files (fault.RefusedRules path refusals) h = h
rules-fit files fault.Limit h = tt
rules-fit files fault.Memory h = tt

-- a last fault may be of any kind
pub last-listing : {A : Type 0} (m n : ℕ) (f : SearchFault A) → is_last f ≡ true → IsOfListing m n f
last-listing m n (fault.Unread path e) h = absurd (false≢true h)
last-listing m n (fault.UnreadRules path e) h = absurd (false≢true h)
last-listing m n (fault.RefusedRules path refusals) h = absurd (false≢true h)
last-listing m n fault.Limit h = tt
last-listing m n fault.Memory h = tt

pub last-listing-of : {A B : Type 0} (m n : ℕ) (r : Result B (SearchFault A)) → IfErr r (λ f. is_last f ≡ true)
    → IfErr r (IsOfListing m n)
last-listing-of m n (Ok x) h = tt
last-listing-of m n (Err f) h = last-listing m n f h

pub last-fits-of : {A B : Type 0} (files : List Text) (r : Result B (SearchFault A)) → IfErr r (λ f. is_last f ≡ true)
    → IfErr r (FitsFiles files)
last-fits-of files (Ok x) h = tt
last-fits-of files (Err f) h = listing-fits files 0 0 f (last-listing 0 0 f h)

-- a directory that is entered next is not a frame yet
pub enters-frames : {A B : Type 0} (b : Bool) (path : Text) (alive : List ℕ) (u v : Way A) (r : Result B (SearchFault A))
    → OnOk r (MayEnter b path alive u v) → OnOk r (v.frames ≡ u.frames)
enters-frames b path alive u v (Err f) h = tt
enters-frames true path alive u v (Ok x) h = h.1
enters-frames false path alive u v (Ok x) h = ap (λ w. w.frames) h

-- the name of a file with rules
pub named-file : {A : Type 0} (files : List (String A)) (n : ℕ) (file : String A) → n < length files → file ≡ get_or files n file
    → Contains (map (λ f. string_bytes f) files) (string_bytes file)
named-file {A} files n file lt is =
    let names : List Text = map (λ (f : String A). string_bytes f) files in
    subst (Contains names)
    (get_or-map (λ (f : String A). string_bytes f) files n file [] lt ∙ ap (λ (f : String A). string_bytes f) (sym is))
    (Contains-get_or names n [] (subst (λ m. n < m) (sym (length-map files (λ (f : String A). string_bytes f))) lt))

module _ {A : Type 0} (m n : Meter) (v w : Way A) (limit : n.limit ≡ m.limit) (spent : m.spent ≤ n.spent) where
  -- an entry is met
  pub meets-takes : {B : Type 0} (r : Result (Option B) (SearchFault A)) → OnOk r (w.frames ≡ v.frames)
      → IfErr r (λ f. is_last f ≡ true) → Takes (stock m v + 1) (stock n w) r
  meets-takes (Ok None) same last =
      let is : unmet w ≡ unmet v = ap (λ fs. sum_by (λ (g : Frame A). vec_len g.entries) fs.items) same in
      omega (arith, limit, spent, is)
  meets-takes (Ok (Some x)) same last =
      let is : unmet w ≡ unmet v = ap (λ fs. sum_by (λ (g : Frame A). vec_len g.entries) fs.items) same in
      omega (arith, limit, spent, is)
  meets-takes (Err f) same last = λ goes. absurd (false≢true (sym goes ∙ last))

  -- a fault was paid for
  pub pays-takes : (f : SearchFault A) → (is_last f ≡ false → w ≡ v) → (is_last f ≡ false → m.spent < n.spent)
      → is_last f ≡ false → stock n w < stock m v
  pays-takes f stays paid goes =
      let is : unmet w ≡ unmet v = ap (λ (x : Way A). unmet x) (stays goes) in
      omega (arith, limit, paid goes, is, n.within)

  pub lists-takes : (f : SearchFault A) → IsOfListing m.spent n.spent f → (is_last f ≡ false → w ≡ v)
      → is_last f ≡ false → stock n w < stock m v
  lists-takes f of stays = pays-takes f stays (listing-paid m.spent n.spent f of)
