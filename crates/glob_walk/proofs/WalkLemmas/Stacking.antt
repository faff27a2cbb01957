-- The last directory of a walk.
use Rattle.std.proofs.Common.{◌≡◌, ℕ, suc, ◌+◌, ◌≤◌, true, false, Option, None, List, [], ◌∷◌, ◌++◌, length, drop, take}
use Rattle.std.proofs.Common.{get_or, set, subst, refl, ap, sym, ◌∙◌, arith, append_assoc}
use Rattle.std.specs.Prelude.{flat_map, nat_le, string_bytes}
use Rattle.std.specs.List.{All}
use Rattle.std.proofs.lemmas.List.{take-append-drop, drop_more, set_split, take-set, reverse-append}
use Rattle.std.proofs.Math.ListN.{drop_of_length-le}
use Rattle.std.proofs.lemmas.List.Elements.{All-take}
use Rattle.std.proofs.lemmas.Bool.Decides.{nat_tests}
use Rattle.std.proofs.lemmas.Bool.{both_ways}
use Rattle.glob_walk.specs.Walks.{Mark}
use Rattle.glob_tree.specs.Content.{Content, DirEntry}
use Rattle.glob_tree.specs.Answers.{entries_of}
use Rattle.std.proofs.lemmas.List.{length-map}
use Rattle.glob_walk.specs.declared.plan.Plan.{Plan}
use Rattle.glob_walk.specs.declared.frame.Frame.{Frame}
use Rattle.glob_walk.specs.declared.frame.Cursor.{Cursor}
use Rattle.glob_walk.specs.declared.frame.Cursor.TheVariants.{Parent, Current, At, Inside}
use Rattle.glob_walk.specs.Private.Frames.{frame_marks, cursor_marks, entries_marks, inside_marks, is_done, is_done_at}
use Rattle.glob_walk.specs.declared.stack.Stack.{Stack}
use Rattle.glob_walk.specs.declared.query.Query.{Query}
use Rattle.glob_walk.specs.declared.walker.Walker.{Walker}
use Rattle.glob_walk.specs.Private.Tasks.{next_marks, IsNextSound}
use Rattle.glob_walk.specs.Private.Queries.{query_marks, IsQuerySound}
use Rattle.glob_walk.specs.Private.Stacks.{left, frames_marks, AreSound, IsSound}
use Rattle.glob_walk.specs.Private.Depths.{IsNextDeep, IsQueryDeep}
use Rattle.glob_walk.specs.Private.Walkers.{IsWalkSound}

nothing_past : {X : Type 0} (xs : List X) (n : ℕ) → length xs ≤ n → drop n xs ≡ []
nothing_past xs n h = drop_of_length-le xs {i = n} h

pub last_split : {X : Type 0} (xs : List X) (n : ℕ) (x : X) → n + 1 ≡ length xs → x ≡ get_or xs n x → xs ≡ take n xs ++ x ∷ []
last_split xs n x h is =
    sym (take-append-drop n xs) ∙ ap (λ ys. take n xs ++ ys) (drop_more xs n x (omega (arith, h))
    ∙ ap (λ ys. get_or xs n x ∷ ys) (nothing_past xs (n + 1) (omega (arith, h))) ∙ ap (λ y. y ∷ []) (sym is))

pub set_last : {X : Type 0} (xs : List X) (n : ℕ) (y : X) → n + 1 ≡ length xs → set xs n y ≡ take n xs ++ y ∷ []
set_last xs n y h = set_split xs n y (omega (arith, h)) ∙ ap (λ ys. take n xs ++ y ∷ ys) (nothing_past xs (suc n) (omega (arith, h)))

pub front_last : {X : Type 0} (xs : List X) (n : ℕ) (y : X) → n + 1 ≡ length xs → take n (set xs n y) ≡ take n xs
front_last xs n y h = take-set xs n y

pub All-front : {X : Type 0} (P : X → Type 0) (xs ys : List X) (n : ℕ) (y : X) → n + 1 ≡ length xs → ys ≡ take n
    (set xs n y) → All P xs → All P ys
All-front P xs ys n y h is all = subst (All P) (sym (is ∙ front_last xs n y h)) (All-take P n xs all)

test_le : (n i : ℕ) → nat_le n i ≡ true → n ≤ i
test_le n i h = grind (arith, nat_tests)

-- a finished directory leaves nothing
pub done_marks : {A : Type 0} (c : Content) (plan : Plan A) (f : Frame A) → is_done f ≡ true → frame_marks c plan f ≡ []
done_marks {A} c plan f h = of_place f.cursor h
  where
    es : List DirEntry
    es = entries_of f.entries.items

    past : (i : ℕ) → nat_le (length f.entries.items) i ≡ true → drop i (entries_of f.entries.items) ≡ []
    past i t = nothing_past (entries_of f.entries.items) i (simp length-map (test_le (length f.entries.items) i t))

    of_place : (p : Cursor) → is_done_at (length f.entries.items) p ≡ true → cursor_marks c plan f.recursive
        f.component (string_bytes f.path) (entries_of f.entries.items) p ≡ []
    of_place Parent t = absurd (both_ways false refl t)
    of_place Current t = absurd (both_ways false refl t)
    of_place (At i) t = ap (entries_marks c plan f.recursive f.component (string_bytes f.path)) (past i t)
    of_place (Inside i) t = ap (inside_marks c plan f.recursive f.component (string_bytes f.path)) (past i t)

-- without a task, what is left is in the directories
pub left_none : {A : Type 0} (c : Content) (s : Stack A) → s.next ≡ None → frames_marks c s.plan s.frames.items ≡ left c s
left_none c s none = ap (λ n. next_marks c s.plan n ++ frames_marks c s.plan s.frames.items) (sym none)

-- without an open question, what is left is in the stack
pub left_free : {A : Type 0} (c : Content) (plan : Plan A) (q : Option (Query A)) (ms : List Mark) → q ≡ None
    → ms ≡ query_marks c plan q ++ ms
left_free c plan q ms free = ap (λ x. query_marks c plan x ++ ms) (sym free)

-- without a task, the directories are sound
pub sound_none : {A : Type 0} (c : Content) (s : Stack A) → s.next ≡ None → AreSound c s.plan s.frames.items → IsSound c s
sound_none c s none frames = record {
  next = subst (IsNextSound c) (sym none) tt;
  deep = λ plain. subst (IsNextDeep c s.plan (length s.frames.items)) (sym none) tt;
  frames = frames;
}

pub sound_free : {A : Type 0} (c : Content) (w : Walker A) → w.query ≡ None → IsSound c w.stack → IsWalkSound c w
sound_free c w free stack = record {
  query = subst (IsQuerySound c) (sym free) tt;
  deep = λ plain. subst (IsQueryDeep c w.stack.plan (length w.stack.frames.items)) (sym free) tt;
  stack = stack;
}

module _ {A : Type 0} (c : Content) (plan : Plan A) where
  pub frames_last : (fs : List (Frame A)) (f : Frame A) → frames_marks c plan (fs ++ f ∷ []) ≡ frame_marks c plan f ++
      frames_marks c plan fs
  frames_last fs f = ap (flat_map (frame_marks c plan)) (reverse-append fs (f ∷ []))

  pub step_left : (fs : List (Frame A)) (n : ℕ) (f g : Frame A) (next : List Mark) → n + 1 ≡ length fs → f ≡ get_or fs n f
      → frame_marks c plan f ≡ next ++ frame_marks c plan g → frames_marks c plan fs ≡ next ++ frames_marks c plan (set fs n g)
  step_left fs n f g next h is went =
      ap (frames_marks c plan) (last_split fs n f h is)
      ∙ frames_last (take n fs) f
      ∙ ap (λ ms. ms ++ frames_marks c plan (take n fs)) went
      ∙ append_assoc next (frame_marks c plan g) (frames_marks c plan (take n fs))
      ∙ ap (λ ms. next ++ ms) (sym (ap (frames_marks c plan) (set_last fs n g h) ∙ frames_last (take n fs) g))

  -- the last directory takes its last step
  pub last_step_left : (fs rest : List (Frame A)) (n : ℕ) (f g : Frame A) (next : List Mark) → n + 1 ≡ length fs → f ≡ get_or fs n f
      → frame_marks c plan f ≡ next ++ frame_marks c plan g → is_done g ≡ true → rest ≡ take n (set fs n g)
      → frames_marks c plan fs ≡ next ++ frames_marks c plan rest
  last_step_left fs rest n f g next h is went done popped =
      step_left fs n f g next h is went
      ∙ ap (λ ms. next ++ ms)
      (ap (frames_marks c plan) (set_last fs n g h)
      ∙ frames_last (take n fs) g
      ∙ ap (λ ms. ms ++ frames_marks c plan (take n fs)) (done_marks c plan g done)
      ∙ ap (frames_marks c plan) (sym (popped ∙ front_last fs n g h)))
