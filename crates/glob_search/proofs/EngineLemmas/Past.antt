-- What a search finds comes after what it found before, over any tree.
use Rattle.std.proofs.Common.{◌≡◌, ℕ, zero, suc, ◌<◌, inl, inr, ⊎_elim, Bool, true, false, ◌&&◌, List, [], ◌∷◌, ◌++◌, Option}
use Rattle.std.proofs.Common.{Some, None, Result, Ok, Err, refl, ap, sym, subst, ◌∙◌, arith}
use Rattle.std.specs.Prelude.{Contains, IfErr, IfOk, OnOk, String, Vec, reverse, string_bytes, vec_len}
use Rattle.std.specs.Ordering.{ordering_then}
use Rattle.std.specs.Path.{cur_dir}
use Rattle.std.specs.declared.cmp.Ordering.TheVariants.{Less}
use Rattle.std.proofs.lemmas.Bool.{and_parts, both_ways}
use Rattle.std.proofs.lemmas.Cmp.{lists_total, nat_list_cmp_total}
use Rattle.std.proofs.lemmas.List.{append-nil, append_assoc}
use Rattle.std.proofs.lemmas.List.Elements.{Contains-append_right}
use Rattle.std.proofs.lemmas.List.Sums.{fold-append}
use Rattle.glob_text.specs.Text.{Text}
use Rattle.glob_tree.specs.Content.{Key}
use Rattle.glob_tree.specs.Paths.{child}
use Rattle.glob_tree.specs.declared.tree.Entry.{Entry}
use Rattle.glob_tree.proofs.ContentLemmas.Membership.{Contains-head}
use Rattle.glob_search.specs.Aims.{path_down}
use Rattle.glob_search.specs.Laws.{key_cmp}
use Rattle.glob_search.specs.Searching.{Aim, is_taken}
use Rattle.glob_search.specs.Private.Engine.{StepsInto, found_if}
use Rattle.glob_search.specs.States.{is_last}
use Rattle.glob_search.specs.Private.Listings.{AreFalling}
use Rattle.glob_search.specs.Private.Nodes.{AreAlive, AreBeginnings}
use Rattle.glob_search.specs.Private.Order.{IsAhead, IsNested, IsFrameOf, IsPastAll, IsPastEntry, IsPastWay, IsPastWork}
use Rattle.glob_search.specs.Private.Order.{IsUpTo, StaysPast, TurnsLater}
use Rattle.glob_search.specs.Private.Steps.{MayEnter, NextWork}
use Rattle.glob_search.specs.Private.Ways.{IsDone}
use Rattle.glob_search.specs.declared.beginnings.Beginnings.{Beginnings}
use Rattle.glob_search.specs.declared.fault.SearchFault.{SearchFault}
use Rattle.glob_search.specs.declared.found.Found.{Found as FoundPath}
use Rattle.glob_search.specs.declared.frame.Frame.{Frame}
use Rattle.glob_search.specs.declared.frame.Opening.{Opening}
use Rattle.glob_search.specs.declared.frame.Source.{Source}
use Rattle.glob_search.specs.declared.searcher.Searcher.{Searcher}
use Rattle.glob_search.specs.declared.way.Way.{Way}
use Rattle.glob_search.specs.declared.way.Work.{Work}
use Rattle.glob_search.specs.declared.way.Work.TheVariants.{Enter, Read, Meet, Leave}
use Rattle.glob_search.proofs.EngineLemmas.Falling.{falls-before}
use Rattle.glob_search.proofs.EngineLemmas.Lasts.{reverse-from}
use Rattle.glob_search.proofs.EngineLemmas.Passing.{no-items}
use Rattle.glob_search.proofs.OrderLemmas.Ascending.{key-under}

key-trans : (k l m : Key) → key_cmp k l ≡ Less → key_cmp l m ≡ Less → key_cmp k m ≡ Less
key-trans k l m g h = (lists_total nat_list_cmp_total).trans k l m g h

up_to-less : (past at k : Key) → IsUpTo past at → key_cmp at k ≡ Less → key_cmp past k ≡ Less
up_to-less past at k u h = ⊎_elim (λ same. subst (λ p. key_cmp p k ≡ Less) (sym same) h) (λ less. key-trans past at k less h) u

-- what is below the names comes before what is left above
ahead-below : {A : Type 0} (b : Beginnings A) (names rest : Key) (fs : List (Frame A)) → IsNested b names fs
    → IsAhead b (names ++ rest) fs
ahead-below b names rest [] h = tt
ahead-below b names rest (f ∷ fs) (directory, n, is, of, later, nested) = (
  directory,
  n ∷ rest,
  ap (λ k. k ++ rest) is ∙ append_assoc directory (n ∷ []) rest,
  of,
  λ e in'. ap (λ o. ordering_then o (key_cmp rest [])) (later e in'),
  nested,
)

ahead-here : {A : Type 0} (b : Beginnings A) (names : Key) (fs : List (Frame A)) → IsNested b names fs → IsAhead b names fs
ahead-here b names fs h = subst (λ k. IsAhead b k fs) (append-nil names) (ahead-below b names [] fs h)

ahead-left : {A : Type 0} (b : Beginnings A) (names : Key) (f : Frame A) (fs : List (Frame A)) → IsAhead b names (f ∷ fs)
    → IsAhead b names fs
ahead-left b names f fs (directory, rest, is, of, less, nested) =
    subst (λ k. IsAhead b k fs) (sym is) (ahead-below b directory rest fs nested)

ahead-files : {A : Type 0} (b : Beginnings A) (names : Key) (f : Frame A) (n : ℕ) (fs : List (Frame A))
    → IsAhead b names (f ∷ fs) → IsAhead b names (record f { files = n } ∷ fs)
ahead-files b names f n fs (directory, rest, is, of, less, nested) = (
  directory,
  rest,
  is,
  record { path = of.path; alive = of.alive; falls = of.falls },
  less,
  nested,
)

ahead-same : {A : Type 0} (b : Beginnings A) (names : Key) (f g : Frame A) (fs : List (Frame A))
    → g ≡ record f { files = g.files } → IsAhead b names (f ∷ fs) → IsAhead b names (g ∷ fs)
ahead-same b names f g fs is h = subst (λ x. IsAhead b names (x ∷ fs)) (sym is) (ahead-files b names f g.files fs h)

-- if nothing is entered next
free-past : {A : Type 0} (b : Beginnings A) (past : Key) (w : Way A) (names : Key) → w.entering ≡ None → IsUpTo past names
    → IsAhead b names (reverse w.frames.items) → IsPastWay b past w
free-past b past w names free upto ahead =
    subst (λ o. IsPastAll b past o (reverse w.frames.items)) (sym free) (names, upto, ahead)

was-past : {A : Type 0} (b : Beginnings A) (past : Key) (w : Way A) → w.entering ≡ None → IsPastWay b past w → (names : Key)
    × IsUpTo past names × IsAhead b names (reverse w.frames.items)
was-past b past w free p = subst (λ o. IsPastAll b past o (reverse w.frames.items)) free p

-- the next work is past the same names
pub works-past : {A : Type 0} (b : Beginnings A) (past : Key) (files : List Text) (old new : Way A) (work : Work A)
    → NextWork files old (Some work) new → IsPastWay b past old → IsPastWork b past work new
works-past {A} b past files old new (Enter o) (entering, free, same) p = (
  free,
  subst (λ xs. IsPastAll b past (Some o) (reverse xs)) (sym same) (subst (λ (x : Option (Opening A)). IsPastAll b past x
      (reverse old.frames.items)) entering p),
)
works-past {A} b past files old new (Read n) x p =
    let (names, upto, ahead) = was-past b past old x.goes.free p in
    let fs = reverse x.goes.front in
    let was = subst (IsAhead b names) (reverse-from old.frames.items x.goes.front x.last x.goes.before) ahead in
    free-past b past new names x.goes.still upto
    (subst (IsAhead b names) (sym (reverse-from new.frames.items x.goes.front x.passed x.goes.after))
    (ahead-same b names x.last x.passed fs x.next.0.same was))
works-past {A} b past files old new (Meet e) x p =
    let (names, upto, ahead) = was-past b past old x.goes.free p in
    let fs = reverse x.goes.front in
    let (directory, rest, is, of, less, nested) = subst (IsAhead b names) (reverse-from old.frames.items x.goes.front
    x.last x.goes.before) ahead in
    let path : string_bytes x.left.path ≡ string_bytes x.last.path = ap (λ (f : Frame A). string_bytes f.path) x.same
    ∙ ap (λ (f : Frame A). string_bytes f.path) x.next.0.same in
    let alive : x.left.alive.items ≡ x.last.alive.items = ap (λ (f : Frame A). f.alive.items) x.same
    ∙ ap (λ (f : Frame A). f.alive.items) x.next.0.same in
    let entries : x.last.entries.items ≡ x.left.entries.items ++ e ∷ [] = sym (ap (λ (f : Frame A). f.entries.items)
    x.next.0.same) ∙ x.entry in
    let down = falls-before x.left.entries.items e (subst AreFalling entries of.falls) in
    let there : Contains x.last.entries.items e = subst (λ es. Contains es e) (sym entries)
    (Contains-append_right x.left.entries.items (e ∷ []) e (Contains-head e [])) in
    let later : key_cmp names (directory ++ e.name ∷ []) ≡ Less = ap (λ k. key_cmp k (directory ++ e.name ∷ [])) is
    ∙ key-under directory rest (e.name ∷ []) ∙ less e there in (
      x.goes.still,
      subst (IsPastEntry b past e) (sym (reverse-from new.frames.items x.goes.front x.left x.goes.after)) (
        directory,
        record { path = path ∙ of.path; alive = subst (AreAlive b directory) (sym alive) of.alive; falls = down.0 },
        down.1,
        up_to-less past names
            (directory ++ e.name ∷ []) upto later,
        nested,
      ),
    )
works-past {A} b past files old new (Leave n) x p =
    let (names, upto, ahead) = was-past b past old x.free p in
    free-past b past new names x.still upto
    (ahead-left b names x.last (reverse new.frames.items) (subst (IsAhead b names) (reverse-from old.frames.items
    new.frames.items x.last x.before) ahead))

-- an entry gives nothing
pub skips-past : {A : Type 0} (b : Beginnings A) (past : Key) (e : Entry A) (w : Way A) → IsPastWork b past (Meet e) w
    → IsPastWay b past w
skips-past {A} b past e w (free, h) = by_frames (reverse w.frames.items) refl h
  where
    by_frames : (fs : List (Frame A)) → reverse w.frames.items ≡ fs → IsPastEntry b past e fs → IsPastWay b past w
    by_frames [] is h = absurd h
    by_frames (f ∷ fs) is (directory, of, later, less, nested) =
        let names = directory ++ e.name ∷ [] in
        let within : IsNested b names (f ∷ fs) = (directory, e.name, refl, of, later, nested) in
        free-past b past w names free (inr less) (subst (IsAhead b names) (sym is) (ahead-here b names (f ∷ fs) within))

enters-if : {A : Type 0} (b : Beginnings A) (past names : Key) (on : Bool) (path : Text) (alive : List ℕ) (old new : Way A)
    → MayEnter on path alive old new → old.entering ≡ None → path ≡ path_down names → AreAlive b names alive
    → IsUpTo past names → IsNested b names (reverse old.frames.items) → IsPastWay b past new
enters-if b past names false path alive old new same free named living upto nested =
    subst (IsPastWay b past) (sym same) (free-past b past old names free upto
    (ahead-here b names (reverse old.frames.items) nested))
enters-if {A} b past names true path alive old new (x, frames) free named living upto nested =
    subst (λ o. IsPastAll b past o (reverse new.frames.items)) (sym x.next)
    (subst (λ (fs : Vec (Frame A) A). IsPastAll b past (Some x.opening) (reverse fs.items)) (sym frames) (
      names,
      record { path = x.named ∙ named; alive = subst (AreAlive b names) (sym x.living) living },
      upto,
      nested,
    ))

-- an entry is taken
module _ {A : Type 0} (b : Beginnings A) (past : Key) (e : Entry A) (old new : Way A) (on test found : Bool) (path : String A)
    (alive : List ℕ) (d : Option Bool) (r : Result (Option (FoundPath A)) (SearchFault A))
    (found-is : (a : Aim) (names : Key) → AreBeginnings a.options a.patterns b → AreAlive b names alive
    → found ≡ is_taken a names)
    (enters : OnOk r (MayEnter on (string_bytes path) alive old new)) (finds : IfOk r (λ o. o ≡ found_if (found && test) path d))
    (last : IfErr r (λ x. is_last x ≡ true)) where
  takes-past : (f : Frame A) (fs : List (Frame A)) → IsPastWork b past (Meet e) old → reverse old.frames.items ≡ f ∷ fs
      → string_bytes path ≡ child (string_bytes f.path) e.name
      → ((names : Key) → AreAlive b names f.alive.items → AreAlive b (names ++ e.name ∷ []) alive) → TurnsLater b past r new
  takes-past f fs (free, h) is named follow = by_result r enters finds last
    where
      here : IsPastEntry b past e (f ∷ fs)
      here = subst (IsPastEntry b past e) is h

      names : Key
      names = here.0 ++ e.name ∷ []

      living : AreAlive b names alive
      living = follow here.0 here.1.alive

      named-down : string_bytes path ≡ path_down names
      named-down = named ∙ ap (λ p. child p e.name) here.1.path ∙ sym (fold-append child cur_dir here.0 (e.name ∷ []))

      by_result : (r : Result (Option (FoundPath A)) (SearchFault A)) → OnOk r (MayEnter on (string_bytes path) alive old new)
          → IfOk r (λ o. o ≡ found_if (found && test) path d) → IfErr r (λ x. is_last x ≡ true) → TurnsLater b past r new
      by_result (Err x) enters' finds' last' = λ goes. absurd (both_ways (is_last x) goes last')
      by_result (Ok o) enters' finds' last' =
          subst (λ o. TurnsLater b past (Ok o) new) (sym finds') (by_found (found && test) refl)
        where
          goes : (k : Key) → IsUpTo k names → IsPastWay b k new
          goes k upto = enters-if b k names on (string_bytes path) alive old new enters' free named-down living upto
              (subst (IsNested b names) (sym is) (here.0, e.name, refl, here.1, here.2, here.4))

          by_found : (t : Bool) → t ≡ (found && test) → TurnsLater b past (Ok (found_if t path d)) new
          by_found true both = record {
            names = names;
            path = named-down;
            later = here.3;
            taken = λ a for. sym (found-is a names for living) ∙ (and_parts found test (sym both)).0;
            goes = goes names (inl refl);
          }
          by_found false both = goes past (inr here.3)

  -- the last directory is the one that was looked at
  pub meets-past : (g : Frame A) → IsPastWork b past (Meet e) old
      → ((f : Frame A) (fs : List (Frame A)) → reverse old.frames.items ≡ f ∷ fs → g ≡ f)
      → string_bytes path ≡ child (string_bytes g.path) e.name
      → ((names : Key) → AreAlive b names g.alive.items → AreAlive b (names ++ e.name ∷ []) alive) → TurnsLater b past r new
  meets-past g h same named follow = by_frames (reverse old.frames.items) refl
    where
      by_frames : (fs : List (Frame A)) → reverse old.frames.items ≡ fs → TurnsLater b past r new
      by_frames [] is = absurd (subst (IsPastEntry b past e) is h.1)
      by_frames (f ∷ fs) is =
          takes-past f fs h is (named ∙ ap (λ (x : Frame A). child (string_bytes x.path) e.name) (same f fs is))
          (subst (λ (x : Frame A). (names : Key) → AreAlive b names x.alive.items → AreAlive b (names ++ e.name ∷ []) alive)
          (same f fs is) follow)

-- a directory is skipped
pub passes-past : {A : Type 0} (b : Beginnings A) (past : Key) (o : Opening A) (old new : Way A)
    → IsPastWork b past (Enter o) old → new ≡ old → IsPastWay b past new
passes-past b past o old new (free, (names, opened, upto, nested)) same =
    subst (IsPastWay b past) (sym same) (free-past b past old names free upto
    (ahead-here b names (reverse old.frames.items) nested))

-- it is entered
pub enters-past : {A B : Type 0} (b : Beginnings A) (past : Key) (o : Opening A) (source : Source) (entries : Vec (Entry A) A)
    (s u t : Searcher A) (r : Result B (SearchFault A)) → u.way ≡ s.way
    → IsPastWork b past (Enter o) s.way → AreFalling entries.items → (vec_len entries ≡ 0 → t.way ≡ u.way) → OnOk r
    (0 < vec_len entries → StepsInto o source entries u t)
    → IfErr r (λ x. is_last x ≡ true) → StaysPast b past r t.way
enters-past b past o source entries s u t (Err x) same h falls none some last = λ goes. absurd (both_ways (is_last x) goes last)
enters-past {A} b past o source entries s u t (Ok done) same h falls none some last = by_len (vec_len entries) refl
  where
    by_len : (n : ℕ) → vec_len entries ≡ n → IsPastWay b past t.way
    by_len zero is = passes-past b past o s.way t.way h (none is ∙ same)
    by_len (suc n) is =
        let x = some (omega (arith, is)) in
        let (free, (names, opened, upto, nested)) = subst (IsPastWork b past (Enter o)) (sym same) h in
        let frames = reverse-from t.way.frames.items u.way.frames.items x.last x.frames in
        let of : IsFrameOf b names x.last = record {
          path = ap (λ (f : Frame A). string_bytes f.path) x.is ∙ opened.path;
          alive = subst (λ (f : Frame A). AreAlive b names f.alive.items) (sym x.is) opened.alive;
          falls = subst (λ (f : Frame A). AreFalling f.entries.items) (sym x.is) falls;
        } in
        let ahead : IsAhead b names (x.last ∷ reverse u.way.frames.items) =
        (names, [], sym (append-nil names), of, λ e in'. refl, nested) in
        free-past b past t.way names (x.still ∙ free) upto (subst (IsAhead b names) (sym frames) ahead)

-- if nothing is left
pub done-past : {A : Type 0} (b : Beginnings A) (past : Key) (w : Way A) → IsDone w → IsPastWay b past w
done-past b past w (free, none) = free-past b past w past free (inl refl)
    (subst (IsAhead b past) (sym (ap reverse (no-items w.frames none))) tt)

-- at the start
pub start-past : {A : Type 0} (b : Beginnings A) (w : Way A) (o : Opening A) → w.entering ≡ Some o → string_bytes o.path ≡ cur_dir
    → AreAlive b [] o.alive.items → w.frames.items ≡ [] → IsPastWay b [] w
start-past {A} b w o is named living none =
    subst (λ (x : Option (Opening A)). IsPastAll b [] x (reverse w.frames.items)) (sym is)
    (subst (λ (fs : List (Frame A)). IsPastAll b [] (Some o) (reverse fs)) (sym none)
    ([], record { path = named; alive = living }, inl refl, tt))

pub start-none : {A : Type 0} (b : Beginnings A) (w : Way A) → w.entering ≡ None → w.frames.items ≡ [] → IsPastWay b [] w
start-none b w is none = free-past b [] w [] is (inl refl) (subst (IsAhead b []) (sym (ap reverse none)) tt)
