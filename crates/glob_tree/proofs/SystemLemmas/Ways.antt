-- The directories above a path: if all are directories, the path is direct; otherwise nothing is there.
use Rattle.std.proofs.Common.{◌≡◌, ◌<◌, Bool, true, false, cond, not, ◌&&◌, ◌||◌, inl, inr, ⊎_elim, List, [], ◌∷◌, ◌++◌}
use Rattle.std.proofs.Common.{length, Option, Some, None, refl, ap, sym, ◌∙◌, arith}
use Rattle.std.specs.Prelude.{option_and_then}
use Rattle.std.specs.List.{list_any}
use Rattle.std.specs.Path.{has_no_slash}
use Rattle.std.proofs.lemmas.Bool.{and_parts, both_ways, not-true, not_from_false, or_from, or_parts}
use Rattle.std.proofs.lemmas.List.{length-append}
use Rattle.std.proofs.lemmas.List.Sums.{fold-append}
use Rattle.std.proofs.lemmas.Option.{none-some, same_Some}
use Rattle.glob_text.specs.Characters.{slash}
use Rattle.glob_text.specs.Pieces.{pieces}
use Rattle.glob_text.specs.Text.{Text}
use Rattle.glob_tree.specs.Content.{Content, Key, same_key, is_content, kind_at, is_dir_at, step, steps, origin}
use Rattle.glob_tree.specs.Content.{resolve, look_of, look_result}
use Rattle.glob_tree.specs.FileSystems.{FileSystem, may_be_directory, is_directory_link, passes_link, is_direct}
use Rattle.glob_tree.specs.Looks.{is_directory}
use Rattle.glob_tree.specs.Private.Looking.{IsWay}
use Rattle.glob_tree.specs.declared.kind.Kind.{Kind}
use Rattle.glob_tree.specs.declared.kind.Kind.TheVariants.{Dir, Shut, Other}
use Rattle.glob_tree.specs.declared.tree.Look.TheVariants as look
use Rattle.glob_tree.proofs.ContentLemmas.Contents.{IsContent-from_test}
use Rattle.glob_tree.proofs.ContentLemmas.Directories.{LeadsTo-from_looked, is_dir_at-kind}
use Rattle.glob_tree.proofs.ContentLemmas.Resolving.{pieces_some, pieces-append, pieces_one, origin-append}
use Rattle.glob_tree.proofs.ContentLemmas.Resolving.{resolve_some, resolve_empty, resolve_steps, steps_none, step_none}
use Rattle.glob_tree.proofs.ContentLemmas.Resolving.{step_here}

no_link_here : (f : FileSystem) (k : Key) → is_dir_at f.content k ≡ true → is_directory_link f k ≡ false
no_link_here f k d = rw d refl

passes_end : (f : FileSystem) (at : Option Key) → passes_link f at [] ≡ false
passes_end f None = refl
passes_end f (Some k) = refl

-- pieces that lead somewhere start at a directory
pub steps_from : (c : Content) (o : Key) (q : Text) (ps : List Text) (k : Key) → steps c (Some o) (q ∷ ps) ≡ Some k → is_dir_at c o ≡ true
steps_from c o q ps k h = by_test (is_dir_at c o) refl
  where
    by_test : (b : Bool) → is_dir_at c o ≡ b → is_dir_at c o ≡ true
    by_test true d = d
    by_test false d = absurd (none-some k (sym (ap (λ a. steps c a ps) (step_none c o q d) ∙ steps_none c ps) ∙ h))

-- pieces that lead to a directory pass no link, not even with one more piece
passes_below : (f : FileSystem) (at : Option Key) (ps : List Text) (k : Key) (p : Text) → steps f.content at ps ≡ Some
    k → is_dir_at f.content k ≡ true
    → passes_link f at (ps ++ p ∷ []) ≡ false
passes_below f None ps k p h d = refl
passes_below f (Some o) [] k p h d =
    or_from (is_directory_link f o) (passes_link f (step f.content p o) []) (no_link_here f o (ap (is_dir_at f.content)
    (same_Some o k h) ∙ d)) (passes_end f (step f.content p o))
passes_below f (Some o) (q ∷ ps) k p h d =
    or_from (is_directory_link f o) (passes_link f (step f.content q o) (ps ++ p ∷ [])) (no_link_here f o
    (steps_from f.content o q ps k h)) (passes_below f (step f.content q o) ps k p h d)

-- the content has nothing behind a link to a directory
passed_none : (f : FileSystem) (at : Option Key) (ps : List Text) → passes_link f at ps ≡ true → steps f.content at ps ≡ None
passed_none f None ps h = absurd (both_ways false refl h)
passed_none f (Some k) [] h = absurd (both_ways false refl h)
passed_none f (Some k) (p ∷ ps) h = by_test (is_directory_link f k) refl h (λ later. passed_none f (step f.content p k) ps later)
  where
    by_test : (b : Bool) → is_directory_link f k ≡ b → (b || passes_link f (step f.content p k) ps) ≡ true
        → (passes_link f (step f.content p k) ps ≡ true → steps f.content (step f.content p k) ps ≡ None)
        → steps f.content (step f.content p k) ps ≡ None
    by_test true e h further =
        let non = (and_parts (not (is_dir_at f.content k)) (list_any (λ g. same_key k g.0 && may_be_directory g.1) f.links) e).0 in
        ap (λ a. steps f.content a ps) (step_none f.content k p (not-true (is_dir_at f.content k) non)) ∙ steps_none f.content ps
    by_test false e h further = further h

-- a path without a separator is direct
pub direct_one : (f : FileSystem) → is_content f.content ≡ true → (name : Text) → has_no_slash name ≡ true → is_direct f name ≡ true
unfolding is_direct
direct_one f w name plain =
    let is = IsContent-from_test f.content w in
    let origin_dir : (b : Bool) → is_dir_at f.content (cond b [] f.content.current) ≡ true = λ b. by_origin b is.root is.current in
    ap not (ap (passes_link f (Some (origin f.content name))) (pieces_one name plain)
    ∙ passes_below f (Some (origin f.content name)) [] (origin f.content name) name refl (origin_dir _))
  where
    by_origin : (b : Bool) → is_dir_at f.content [] ≡ true → is_dir_at f.content f.content.current ≡ true
        → is_dir_at f.content (cond b [] f.content.current) ≡ true
    by_origin true r c = r
    by_origin false r c = c

-- the path of a name in a directory is direct
pub direct_below : (f : FileSystem) → is_content f.content ≡ true → (dir name path : Text) → IsWay f.content dir → has_no_slash name ≡ true
    → path ≡ dir ++ slash ∷ name → is_direct f path ≡ true
unfolding is_direct
direct_below f w dir name path way plain is = ap (λ p. not (passes_link f (Some (origin f.content p)) (pieces p))) is
    ∙ ap not (⊎_elim at_start below way)
  where
    cut : pieces (dir ++ slash ∷ name) ≡ pieces dir ++ name ∷ []
    cut = pieces-append dir name ∙ ap (λ ps. pieces dir ++ ps) (pieces_one name plain)

    at_start : dir ≡ [] → passes_link f (Some (origin f.content (dir ++ slash ∷ name))) (pieces (dir ++ slash ∷ name)) ≡ false
    at_start none =
        let root = (IsContent-from_test f.content w).root in
        ap (λ d. passes_link f (Some (origin f.content (d ++ slash ∷ name))) (pieces (d ++ slash ∷ name))) none
        ∙ ap (λ ps. passes_link f (Some []) ([] ∷ ps)) (pieces_one name plain)
        ∙ passes_below f (Some []) ([] ∷ []) [] name (step_here f.content [] [] root refl) root

    below : is_directory (look_result f.content dir) ≡ true → passes_link f
        (Some (origin f.content (dir ++ slash ∷ name))) (pieces (dir ++ slash ∷ name)) ≡ false
    below h =
        let (k, at) = LeadsTo-from_looked f.content dir h in
        let some : 0 < length dir = resolve_some f.content dir k at.resolved in
        ap (λ o. passes_link f (Some o) (pieces (dir ++ slash ∷ name))) (origin-append f.content dir (slash ∷ name) some)
        ∙ ap (passes_link f (Some (origin f.content dir))) cut
        ∙ passes_below f (Some (origin f.content dir)) (pieces dir) k name (sym (resolve_steps f.content dir some)
        ∙ at.resolved) at.directory

passes_front : (f : FileSystem) (at : Option Key) (ps qs : List Text) → passes_link f at (ps ++ qs) ≡ false → passes_link f at ps ≡ false
passes_front f None ps qs h = refl
passes_front f (Some k) [] qs h = refl
passes_front f (Some k) (p ∷ ps) qs h =
    let parts = or_parts (is_directory_link f k) (passes_link f (step f.content p k) (ps ++ qs)) h in
    or_from (is_directory_link f k) (passes_link f (step f.content p k) ps) parts.0 (passes_front f (step f.content p k) ps qs parts.1)

-- what is above a direct path is direct
pub direct_above : (f : FileSystem) → is_content f.content ≡ true → (dir more : Text) → is_direct f (dir ++ slash ∷ more) ≡ true
    → is_direct f dir ≡ true
unfolding is_direct
direct_above f w [] more direct = direct_one f w [] refl
direct_above f w (x ∷ xs) more direct =
    let dir = x ∷ xs in
    let whole =
    ap (passes_link f (Some (origin f.content dir))) (sym (pieces-append dir more))
    ∙ ap (λ o. passes_link f (Some o) (pieces (dir ++ slash ∷ more))) (sym (origin-append f.content dir (slash ∷ more) (omega arith)))
    ∙ not-true (passes_link f (Some (origin f.content (dir ++ slash ∷ more))) (pieces (dir ++ slash ∷ more))) direct in
    not_from_false (passes_link f (Some (origin f.content dir)) (pieces dir))
    (passes_front f (Some (origin f.content dir)) (pieces dir) (pieces more) whole)

-- nothing is below a non-directory, or behind a link to a directory
pub nothing_below : (c : Content) (dir more : Text) → (dir ≡ [] → ⊥) → is_directory (look_result c dir) ≡ false
    → look_result c (dir ++ slash ∷ more) ≡ look.Missing
unfolding look_result
nothing_below c dir more some non = ap (λ o. look_of (option_and_then (kind_at c) o)) (leads_nowhere (some_length dir some))
  where
    some_length : (d : Text) → (d ≡ [] → ⊥) → 0 < length d
    some_length [] some = absurd (some refl)
    some_length (x ∷ xs) some = omega arith

    no_directory : (k : Key) (o : Option Kind) → kind_at c k ≡ o → is_directory (look_of o) ≡ false → is_dir_at c k ≡ false
    no_directory k None e h = rw e refl
    no_directory k (Some Dir) e h = absurd (both_ways true h refl)
    no_directory k (Some (Shut kind)) e h = absurd (both_ways true h refl)
    no_directory k (Some Other) e h = is_dir_at-kind c k Other e

    on_from : (ps : List Text) → 0 < length ps → (o : Option Key) → is_directory
        (look_of (option_and_then (kind_at c) o)) ≡ false → steps c o ps ≡ None
    on_from [] long o h = absurd (omega (arith, long))
    on_from (p ∷ ps) long None h = steps_none c ps
    on_from (p ∷ ps) long (Some k) h = ap (λ a. steps c a ps) (step_none c k p (no_directory k (kind_at c k) refl h)) ∙ steps_none c ps

    leads_nowhere : 0 < length dir → resolve c (dir ++ slash ∷ more) ≡ None
    leads_nowhere long =
        let o = origin c dir in
        let far : 0 < length (dir ++ slash ∷ more) = omega (arith, length-append dir (slash ∷ more)) in
        resolve_steps c (dir ++ slash ∷ more) far
        ∙ ap (λ k. steps c (Some k) (pieces (dir ++ slash ∷ more))) (origin-append c dir (slash ∷ more) long)
        ∙ ap (steps c (Some o)) (pieces-append dir more)
        ∙ fold-append (λ at piece. option_and_then (step c piece) at) (Some o) (pieces dir) (pieces more)
        ∙ on_from (pieces more) (pieces_some more) (steps c (Some o) (pieces dir))
        (ap (λ a. is_directory (look_of (option_and_then (kind_at c) a))) (sym (resolve_steps c dir long)) ∙ non)

-- if no directory is reported, the content has no directory there, even behind a link
pub said_no : (f : FileSystem) (path : Text) → (is_direct f path ≡ true → is_directory (look_result f.content path) ≡
    false) → is_directory (look_result f.content path) ≡ false
unfolding is_direct look_result
said_no f path non = by_test (passes_link f (Some (origin f.content path)) (pieces path)) refl non
  where
    empty_or : (p : Text) → passes_link f (Some (origin f.content p)) (pieces p) ≡ true → is_directory
        (look_of (option_and_then (kind_at f.content) (resolve f.content p))) ≡ false
    empty_or [] h = ap (λ o. is_directory (look_of (option_and_then (kind_at f.content) o))) (resolve_empty f.content)
    empty_or (x ∷ xs) h = ap (λ o. is_directory (look_of (option_and_then (kind_at f.content) o)))
        (resolve_steps f.content (x ∷ xs) (omega arith) ∙ passed_none f (Some (origin f.content (x ∷ xs))) (pieces (x ∷ xs)) h)

    by_test : (b : Bool) → passes_link f (Some (origin f.content path)) (pieces path) ≡ b
        → (not b ≡ true → is_directory (look_of (option_and_then (kind_at f.content) (resolve f.content path))) ≡ false)
        → is_directory (look_of (option_and_then (kind_at f.content) (resolve f.content path))) ≡ false
    by_test true e non = empty_or path e
    by_test false e non = non refl

-- a directory above a way is a way
pub way_above : (c : Content) (dir more : Text) → (dir ≡ [] → ⊥) → IsWay c (dir ++ slash ∷ more) → IsWay c dir
way_above c dir more some (inl none) = absurd (no_end dir none)
  where
    no_end : (d : Text) → d ++ slash ∷ more ≡ [] → ⊥
    no_end d h = omega (arith, ap length h, length-append d (slash ∷ more))
way_above c dir more some (inr h) = inr (by_test (is_directory (look_result c dir)) refl)
  where
    by_test : (b : Bool) → is_directory (look_result c dir) ≡ b → is_directory (look_result c dir) ≡ true
    by_test true e = e
    by_test false e = absurd (both_ways (is_directory (look_result c (dir ++ slash ∷ more))) (ap is_directory
        (nothing_below c dir more some e)) h)
