-- The steps of a frame.
use Rattle.std.proofs.Common.{◌≡◌, ℕ, ◌+◌, ◌<◌, Bool, true, false, cond, List, ◌∷◌, ◌++◌, length, drop, get_or, ap, sym, ◌∙◌, append_assoc}
use Rattle.std.specs.Prelude.{Contains}
use Rattle.std.proofs.lemmas.List.{append-nil, drop_more, get_or-map, length-map}
use Rattle.glob_text.specs.Text.{Text}
use Rattle.glob_walk.specs.Walks.{Mark}
use Rattle.glob_tree.specs.Content.{Content, DirEntry}
use Rattle.glob_tree.specs.Answers.{entries_of}
use Rattle.glob_tree.specs.declared.tree.Entry.{Entry}
use Rattle.glob_walk.specs.declared.plan.Plan.{Plan}
use Rattle.glob_walk.specs.declared.frame.Cursor.{Cursor}
use Rattle.glob_walk.specs.declared.frame.Cursor.TheVariants.{At, Inside}
use Rattle.glob_walk.specs.Private.Frames.{first_part, second_part, entries_marks, inside_marks, cursor_marks}

pub listed_at : {A : Type 0} (es : List (Entry A)) (i : ℕ) (e : Entry A) → i < length es → e ≡ get_or es i e
    → drop i (entries_of es) ≡ (e.name, e.is_dir) ∷ drop (i + 1) (entries_of es)
listed_at {A} es i e h is =
    let f : Entry A → DirEntry = λ x. (x.name, x.is_dir) in
    drop_more (entries_of es) i (f e) (simp length-map h)
    ∙ ap (λ x. x ∷ drop (i + 1) (entries_of es)) (get_or-map f es i e (f e) h ∙ ap f (sym is))

pub contained_at : {A : Type 0} (es : List (Entry A)) (i : ℕ) (e : Entry A) → i < length es → e ≡ get_or es i e
    → Contains (entries_of es) (e.name, e.is_dir)
contained_at {A} es i e h is =
    let f : Entry A → DirEntry = λ x. (x.name, x.is_dir) in
    (i, simp length-map h, get_or-map f es i e (f e) h ∙ ap f (sym is))

module _ {A : Type 0} (c : Content) (plan : Plan A) (component : ℕ) (path : Text) where
  pub at_in_run : (es : List DirEntry) (i : ℕ) (e : DirEntry) (next : List Mark) → drop i es ≡ e ∷ drop (i + 1) es
      → first_part c plan true component path e ≡ next
      → entries_marks c plan true component path (drop i es) ≡ next ++ inside_marks c plan true component path (drop i es)
  at_in_run es i e next at is =
      ap (entries_marks c plan true component path) at
      ∙ append_assoc (first_part c plan true component path e) (second_part c plan true component path e)
      (entries_marks c plan true component path (drop (i + 1) es))
      ∙ ap (λ ms. ms ++ (second_part c plan true component path e ++ entries_marks c plan true component path (drop (i + 1) es))) is
      ∙ ap (λ fs. next ++ inside_marks c plan true component path fs) (sym at)

  pub at_alone : (es : List DirEntry) (i : ℕ) (e : DirEntry) (next : List Mark) → drop i es ≡ e ∷ drop (i + 1) es
      → first_part c plan false component path e ≡ next
      → entries_marks c plan false component path (drop i es) ≡ next ++ entries_marks c plan false component path (drop (i + 1) es)
  at_alone es i e next at is =
      ap (entries_marks c plan false component path) at
      ∙ ap (λ ms. ms ++ entries_marks c plan false component path (drop (i + 1) es))
      (append-nil (first_part c plan false component path e) ∙ is)

  pub inside_next : (recursive : Bool) (es : List DirEntry) (i : ℕ) (e : DirEntry) (next : List Mark) → drop i es ≡ e ∷
      drop (i + 1) es → second_part c plan recursive component path e ≡ next
      → inside_marks c plan recursive component path (drop i es) ≡ next ++ entries_marks c plan recursive component path (drop (i + 1) es)
  inside_next recursive es i e next at is =
      ap (inside_marks c plan recursive component path) at
      ∙ ap (λ ms. ms ++ entries_marks c plan recursive component path (drop (i + 1) es)) is

  -- an entry is met, and then the cursor moves on
  pub at_step : (recursive : Bool) (es : List (Entry A)) (i : ℕ) (e : Entry A) (next : List Mark) (p q : Cursor)
      → i < length es → e ≡ get_or es i e
      → first_part c plan recursive component path (e.name, e.is_dir) ≡ next → p ≡ At i → q ≡ cond recursive (Inside i) (At (i + 1))
      → cursor_marks c plan recursive component path (entries_of es) p ≡ next ++ cursor_marks c plan recursive
      component path (entries_of es) q
  at_step true es i e next p q h is first before after =
      ap (cursor_marks c plan true component path (entries_of es)) before
      ∙ at_in_run (entries_of es) i (e.name, e.is_dir) next (listed_at es i e h is) first
      ∙ ap (λ r. next ++ cursor_marks c plan true component path (entries_of es) r) (sym after)
  at_step false es i e next p q h is first before after =
      ap (cursor_marks c plan false component path (entries_of es)) before
      ∙ at_alone (entries_of es) i (e.name, e.is_dir) next (listed_at es i e h is) first
      ∙ ap (λ r. next ++ cursor_marks c plan false component path (entries_of es) r) (sym after)

  pub inside_step : (recursive : Bool) (es : List (Entry A)) (i : ℕ) (e : Entry A) (next : List Mark) (p : Cursor)
      → i < length es → e ≡ get_or es i e
      → second_part c plan recursive component path (e.name, e.is_dir) ≡ next → p ≡ Inside i
      → cursor_marks c plan recursive component path (entries_of es) p ≡ next ++ cursor_marks c plan recursive
      component path (entries_of es) (At (i + 1))
  inside_step recursive es i e next p h is second before =
      ap (cursor_marks c plan recursive component path (entries_of es)) before
      ∙ inside_next recursive (entries_of es) i (e.name, e.is_dir) next (listed_at es i e h is) second
