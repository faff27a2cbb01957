-- Which directories are above a path, one name after another.
use Rattle.std.proofs.Common.{◌≡◌, ◌<◌, Bool, true, false, not, ◌&&◌, ◌||◌, cond, inl, List, [], ◌∷◌, ◌++◌, length}
use Rattle.std.proofs.Common.{Option, Some, None, refl, ap, sym, ◌∙◌, arith}
use Rattle.std.specs.Prelude.{◌==◌, option_map, option_and_then, unwrap_or}
use Rattle.std.specs.List.{list_any}
use Rattle.std.specs.Path.{has_no_slash, cur_dir}
use Rattle.std.proofs.lemmas.Bool.{and_parts, both_ways, eqb-true, not-true}
use Rattle.std.proofs.lemmas.List.{length-append}
use Rattle.std.proofs.lemmas.List.Folds.{list_any-append}
use Rattle.std.proofs.lemmas.Option.{none-some}
use Rattle.glob_text.specs.Characters.{slash}
use Rattle.glob_text.specs.Pieces.{pieces}
use Rattle.glob_text.specs.Text.{Text}
use Rattle.glob_tree.specs.Content.{Content, Key, is_content, is_dir_at, step, steps, origin, resolve}
use Rattle.glob_tree.specs.FileSystems.{FileSystem, Directory, is_above, goes_through, is_direct, is_same_directory, leads_up}
use Rattle.glob_tree.specs.FileSystems.{number_at, number_found, stat_found}
use Rattle.glob_tree.specs.Private.Looking.{IsThere}
use Rattle.glob_tree.specs.declared.directory_id.DirectoryId.{DirectoryId}
use Rattle.glob_tree.proofs.ContentLemmas.Contents.{IsContent-from_test}
use Rattle.glob_tree.proofs.ContentLemmas.Directories.{is_directory-look_result}
use Rattle.glob_tree.proofs.ContentLemmas.Resolving.{pieces-append, pieces_one, origin-append, resolve_steps}
use Rattle.glob_tree.proofs.ContentLemmas.Resolving.{steps_last, steps_none, step_none, step_here}
use Rattle.glob_tree.proofs.SystemLemmas.Reporting.{directory_there}
use Rattle.glob_tree.proofs.SystemLemmas.Ways.{direct_above, direct_below}

-- a piece leads on only from a directory
step_directory : (c : Content) (p : Text) (o : Option Key) (k : Key) → option_and_then (step c p) o ≡ Some k
    → (d : Key) × (o ≡ Some d) × (is_dir_at c d ≡ true)
step_directory c p None k h = absurd (none-some k h)
step_directory c p (Some d) k h = (d, refl, by_test (is_dir_at c d) refl)
  where
    by_test : (b : Bool) → is_dir_at c d ≡ b → is_dir_at c d ≡ true
    by_test true e = e
    by_test false e = absurd (none-some k (sym (step_none c d p e) ∙ h))

-- the directory to which a path leads is found, with its number
pub found_number : (f : FileSystem) (path : Text) (d : Key) → resolve f.content path ≡ Some d → is_dir_at f.content d ≡ true
    → (stat_found f path ≡ Some Directory) × (number_found f path ≡ number_at f d)
unfolding number_found
found_number f path d at directory = (
  (directory_there f path (is_directory-look_result f.content path d (record { resolved = at; directory = directory }))).1,
  ap (λ o. unwrap_or (option_map (number_at f) o) (record { dev = 0; ino = 0 })) at,
)

-- what is above a path that leads somewhere is a directory
pub above_there : (f : FileSystem) (path above name : Text) → path ≡ above ++ slash ∷ name → has_no_slash name ≡ true → 0 < length above
    → IsThere f path → (d : Key) × (resolve f.content above ≡ Some d) × (is_dir_at f.content d ≡ true)
above_there f path above name is plain some (k, at) =
    let c = f.content in
    let far : 0 < length path = omega (arith, ap length is, length-append above (slash ∷ name)) in
    let last : option_and_then (step c name) (steps c (Some (origin c above)) (pieces above)) ≡ Some k =
    sym (steps_last c (Some (origin c above)) (pieces above) name)
    ∙ ap (steps c (Some (origin c above))) (sym (pieces-append above name ∙ ap (λ ps. pieces above ++ ps) (pieces_one name plain)))
    ∙ ap (λ o. steps c (Some o) (pieces (above ++ slash ∷ name))) (sym (origin-append c above (slash ∷ name) some))
    ∙ ap (λ p. steps c (Some (origin c p)) (pieces p)) (sym is)
    ∙ sym (resolve_steps c path far) ∙ at in
    let (d, there, directory) = step_directory c name (steps c (Some (origin c above)) (pieces above)) k last in
    (d, resolve_steps c above some ∙ there, directory)

at_end : FileSystem → DirectoryId → Option Key → Bool
at_end f n None = false
at_end f n (Some k) = is_same_directory n (number_at f k)

through_nil : (f : FileSystem) (n : DirectoryId) (o : Option Key) → goes_through f n o [] ≡ false
through_nil f n None = refl
through_nil f n (Some k) = refl

one_more : (s a u x e : Bool) → ((s && not (a || (u || false))) || (not u && (x || e))) ≡ (not u && (((s && not a) || x) || e))
one_more false a true x e = refl
one_more true true true x e = refl
one_more true false true x e = refl
one_more false a false x e = refl
one_more true true false x e = refl
one_more true false false x e = refl

last_one : (s u : Bool) → ((s && not (u || false)) || false) ≡ (not u && s)
last_one true true = refl
last_one true false = refl
last_one false true = refl
last_one false false = refl

no_more : (u : Bool) → (not u && false) ≡ false
no_more true = refl
no_more false = refl

-- one more piece
through_last : (f : FileSystem) (n : DirectoryId) (o : Option Key) (ps : List Text) (p : Text)
    → goes_through f n o (ps ++ p ∷ []) ≡ (not (leads_up p) && (goes_through f n o ps || at_end f n (steps f.content o ps)))
unfolding at_end
through_last f n None ps p = sym (ap (λ o. not (leads_up p) && at_end f n o) (steps_none f.content ps) ∙ no_more (leads_up p))
through_last f n (Some k) [] p =
    ap (λ b. (is_same_directory n (number_at f k) && not (leads_up p || false)) || b) (through_nil f n (step f.content p k))
    ∙ last_one (is_same_directory n (number_at f k)) (leads_up p)
through_last f n (Some k) (q ∷ ps) p =
    let s = is_same_directory n (number_at f k) in
    let on = step f.content q k in
    ap (λ a. (s && not a) || goes_through f n on (ps ++ p ∷ [])) (list_any-append leads_up (q ∷ ps) (p ∷ []))
    ∙ ap (λ b. (s && not (list_any leads_up (q ∷ ps) || (leads_up p || false))) || b) (through_last f n on ps p)
    ∙ one_more s (list_any leads_up (q ∷ ps)) (leads_up p) (goes_through f n on ps) (at_end f n (steps f.content on ps))

-- the pieces of a path in a directory
last_piece : (above name : Text) → has_no_slash name ≡ true → pieces (above ++ slash ∷ name) ≡ pieces above ++ name ∷ []
last_piece above name plain = pieces-append above name ∙ ap (λ ps. pieces above ++ ps) (pieces_one name plain)

up_nothing : (u x : Bool) → u ≡ true → (not u && x) ≡ false
up_nothing true x is = refl
up_nothing false x is = absurd (both_ways false refl is)

down_all : (u x : Bool) → u ≡ false → (not u && x) ≡ x
down_all true x is = absurd (both_ways true is refl)
down_all false x is = refl

-- nothing is above a path that ends in `..`
pub above_up : (f : FileSystem) (n : DirectoryId) (path above name : Text) → path ≡ above ++ slash ∷ name → has_no_slash name ≡ true
    → leads_up name ≡ true → is_above f n path ≡ false
unfolding is_above
above_up f n path above name is plain up =
    ap (λ p. goes_through f n (Some (origin f.content p)) (pieces p)) is
    ∙ ap (goes_through f n (Some (origin f.content (above ++ slash ∷ name)))) (last_piece above name plain)
    ∙ through_last f n (Some (origin f.content (above ++ slash ∷ name))) (pieces above) name
    ∙ up_nothing (leads_up name) _ up

-- above a path are the directory that it is in, and the directories above that one
pub above_step : (f : FileSystem) (n : DirectoryId) (path above name : Text) → path ≡ above ++ slash ∷ name → has_no_slash name ≡ true
    → leads_up name ≡ false → 0 < length above → (d : Key) → resolve f.content above ≡ Some d
    → is_above f n path ≡ (is_above f n above || is_same_directory n (number_at f d))
unfolding is_above at_end
above_step f n path above name is plain down some d at =
    let o = Some (origin f.content above) in
    ap (λ p. goes_through f n (Some (origin f.content p)) (pieces p)) is
    ∙ ap (λ k. goes_through f n (Some k) (pieces (above ++ slash ∷ name))) (origin-append f.content above (slash ∷ name) some)
    ∙ ap (goes_through f n o) (last_piece above name plain)
    ∙ through_last f n o (pieces above) name
    ∙ down_all (leads_up name) _ down
    ∙ ap (λ k. goes_through f n o (pieces above) || at_end f n k) (sym (resolve_steps f.content above some) ∙ at)

-- above a path in the root is the root
pub above_root : (f : FileSystem) → is_content f.content ≡ true → (n : DirectoryId) (path name : Text) → path ≡ slash ∷ name
    → has_no_slash name ≡ true → leads_up name ≡ false → is_above f n path ≡ is_same_directory n (number_at f [])
unfolding is_above at_end
above_root f w n path name is plain down =
    let root = (IsContent-from_test f.content w).root in
    let here : steps f.content (Some []) ([] ∷ []) ≡ Some [] = step_here f.content [] [] root refl in
    let s = is_same_directory n (number_at f []) in
    ap (λ p. goes_through f n (Some (origin f.content p)) (pieces p)) is
    ∙ ap (goes_through f n (Some [])) (last_piece [] name plain)
    ∙ through_last f n (Some []) ([] ∷ []) name
    ∙ down_all (leads_up name) _ down
    ∙ ap (λ k. goes_through f n (Some []) ([] ∷ []) || at_end f n k) here
    ∙ ap (λ b. ((s && not (leads_up [] || false)) || b) || s) (through_nil f n (step f.content [] []))
    ∙ root_once s
  where
    root_once : (s : Bool) → (((s && not (leads_up [] || false)) || false) || s) ≡ s
    root_once true = refl
    root_once false = refl

-- above a path without a separator is the current directory, unless it is `..`
pub above_one : (f : FileSystem) (n : DirectoryId) (path : Text) → has_no_slash path ≡ true → leads_up path ≡ false
    → origin f.content path ≡ f.content.current → is_above f n path ≡ is_same_directory n (number_at f f.content.current)
unfolding is_above at_end
above_one f n path plain down from =
    ap (λ k. goes_through f n (Some k) (pieces path)) from
    ∙ ap (goes_through f n (Some f.content.current)) (pieces_one path plain)
    ∙ through_last f n (Some f.content.current) [] path
    ∙ down_all (leads_up path) _ down

pub above_only_up : (f : FileSystem) (n : DirectoryId) (path : Text) → has_no_slash path ≡ true → leads_up path ≡ true
    → is_above f n path ≡ false
unfolding is_above
above_only_up f n path plain up =
    ap (goes_through f n (Some (origin f.content path))) (pieces_one path plain)
    ∙ through_last f n (Some (origin f.content path)) [] path
    ∙ up_nothing (leads_up path) _ up

-- a path without a separator begins in the current directory
pub origin_one : (c : Content) (path : Text) → has_no_slash path ≡ true → origin c path ≡ c.current
origin_one c [] plain = refl
origin_one c (x ∷ xs) plain =
    ap (λ b. cond b [] c.current) (not-true (x == slash) (and_parts (not (x == slash)) (has_no_slash xs) plain).0)

-- the root and the current directory, by their paths
pub root_found : (f : FileSystem) → is_content f.content ≡ true → (is_direct f (slash ∷ []) ≡ true)
    × (stat_found f (slash ∷ []) ≡ Some Directory) × (number_found f (slash ∷ []) ≡ number_at f [])
root_found f w =
    let is = IsContent-from_test f.content w in
    let here : step f.content [] [] ≡ Some [] = step_here f.content [] [] is.root refl in
    let at : resolve f.content (slash ∷ []) ≡ Some [] =
    resolve_steps f.content (slash ∷ []) (omega arith) ∙ ap (option_and_then (step f.content [])) here ∙ here in
    let found = found_number f (slash ∷ []) [] at is.root in
    (direct_below f w [] [] (slash ∷ []) (inl refl) refl refl, found.0, found.1)

pub current_found : (f : FileSystem) → is_content f.content ≡ true
    → (stat_found f cur_dir ≡ Some Directory) × (number_found f cur_dir ≡ number_at f f.content.current)
current_found f w =
    let is = IsContent-from_test f.content w in
    let at : resolve f.content cur_dir ≡ Some f.content.current =
    resolve_steps f.content cur_dir (omega arith) ∙ step_here f.content f.content.current cur_dir is.current refl in
    found_number f cur_dir f.content.current at is.current

-- a directory is above a path if it is above what is left of it
abbrev pub Leaves : FileSystem → DirectoryId → (path below : Text) → Type 0
Leaves f n path below = (is_direct f below ≡ true) × IsThere f below × (is_above f n path ≡ is_above f n below)

or_true : (a b : Bool) → b ≡ true → (a || b) ≡ true
or_true true b is = refl
or_true false b is = is

or_false : (a b : Bool) → b ≡ false → (a || b) ≡ a
or_false true b is = refl
or_false false b is = is

empty_text : (t : Text) → (length t == 0) ≡ true → t ≡ []
empty_text [] h = refl
empty_text (x ∷ xs) h = absurd (omega (arith, eqb-true (length (x ∷ xs)) 0 h))

some_text : (t : Text) → (length t == 0) ≡ false → 0 < length t
some_text [] h = absurd (both_ways true h refl)
some_text (x ∷ xs) h = omega arith

module _ (f : FileSystem) (w : is_content f.content ≡ true) (n : DirectoryId) (path below : Text) (left : Leaves f n path below) where
  same : is_above f n path ≡ is_above f n below
  same = left.2

  -- nothing is above what is left
  pub left_only_up : has_no_slash below ≡ true → leads_up below ≡ true → false ≡ is_above f n path
  left_only_up plain up = sym (same ∙ above_only_up f n below plain up)

  -- the current directory is above it
  pub left_one : has_no_slash below ≡ true → leads_up below ≡ false → is_same_directory n (number_found f cur_dir) ≡ is_above f n path
  left_one plain down = sym (same ∙ above_one f n below plain down (origin_one f.content below plain)
      ∙ ap (is_same_directory n) (sym (current_found f w).1))

  module _ (above name : Text) (is : below ≡ above ++ slash ∷ name) (plain : has_no_slash name ≡ true) where
    pub left_up : leads_up name ≡ true → false ≡ is_above f n path
    left_up up = sym (same ∙ above_up f n below above name is plain up)

    -- the root is above it
    pub left_root : leads_up name ≡ false → (length above == 0) ≡ true
        → is_same_directory n (number_found f (slash ∷ [])) ≡ is_above f n path
    left_root down none = sym (same ∙ above_root f w n below name (is ∙ ap (λ a. a ++ slash ∷ name) (empty_text above none)) plain down
        ∙ ap (is_same_directory n) (sym (root_found f w).2))

    module _ (down : leads_up name ≡ false) (long : (length above == 0) ≡ false) where
      some : 0 < length above
      some = some_text above long

      pub left_found : stat_found f above ≡ Some Directory
      left_found =
          let (d, at, directory) = above_there f below above name is plain some left.1 in (found_number f above d at directory).0

      steps_on : is_above f n path ≡ (is_above f n above || is_same_directory n (number_found f above))
      steps_on =
          let (d, at, directory) = above_there f below above name is plain some left.1 in
          same ∙ above_step f n below above name is plain down some d at
          ∙ ap (λ m. is_above f n above || is_same_directory n m) (sym (found_number f above d at directory).1)

      pub left_direct : is_direct f above ≡ true
      left_direct = direct_above f w above name (ap (is_direct f) (sym is) ∙ left.0)

      -- it is the directory above
      pub left_here : is_same_directory n (number_found f above) ≡ true → true ≡ is_above f n path
      left_here here = sym (steps_on ∙ or_true (is_above f n above) (is_same_directory n (number_found f above)) here)

      -- it is not the directory above
      pub left_on : is_same_directory n (number_found f above) ≡ false → Leaves f n path above
      left_on other =
          let (d, at, directory) = above_there f below above name is plain some left.1 in
          (left_direct, (d, at), steps_on ∙ or_false (is_above f n above) (is_same_directory n (number_found f above)) other)
