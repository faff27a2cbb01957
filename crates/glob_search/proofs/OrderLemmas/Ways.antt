-- Ways down a tree: what is reached, one name further, and what is above a key.
use Rattle.std.proofs.Common.{◌≡◌, ℕ, ◌+◌, ◌≤◌, max, Bool, true, false, not, ◌&&◌, ◌||◌, ⊎_elim, List, [], ◌∷◌, ◌++◌}
use Rattle.std.proofs.Common.{length, Some, refl, ap, ap₂, sym, ◌∙◌, arith}
use Rattle.std.specs.Prelude.{Contains, fold}
use Rattle.std.specs.List.{list_all}
use Rattle.std.specs.Str.{is_utf8}
use mathlib.Core.Bool.{or-false}
use Rattle.std.proofs.lemmas.Bool.{false≢true, and_parts, and_from, or_right, not-true, not_from_false, cond-false}
use Rattle.std.proofs.lemmas.List.{append_assoc, append-nil, length-append}
use Rattle.glob_text.specs.Text.{Text}
use Rattle.glob_tree.specs.Content.{Content, Key, kind_at, is_dir, is_dir_at, is_placed, parent_key}
use Rattle.glob_tree.specs.Paths.{is_proper}
use Rattle.glob_tree.specs.declared.kind.Kind.{Kind}
use Rattle.glob_tree.specs.declared.kind.Kind.TheVariants.{Dir, Shut, Other}
use Rattle.glob_tree.proofs.ContentLemmas.Contents.{IsContent, contains_kind_at, parent_key-append}
use Rattle.glob_tree.proofs.ContentLemmas.Directories.{all_above}
use Rattle.glob_tree.proofs.ContentLemmas.Membership.{Contains-cases, Contains-nil, list_all-contains}
use Rattle.glob_search.specs.Searching.{Aim, is_ignored, is_closed, is_listed, is_nil, is_visible, is_kept, is_shut}
use Rattle.glob_search.specs.Visiting.{Gift, inside, levels}

pub some-names : (ns : Key) (n : Text) → not (is_nil (ns ++ n ∷ [])) ≡ true
some-names [] n = refl
some-names (m ∷ ms) n = refl

-- a search that gets to a directory gets to the names below it
abbrev pub reached_from : Content → Aim → (directory names : Key) → (is_directory : Bool) → Bool
reached_from c a directory names d = is_visible c a directory names && is_kept a directory names d

module _ (c : Content) (a : Aim) where
  -- the parts of what is reached past a directory
  pub record First (directory : Key) (n : Text) (ns : Key) (d : Bool) : Type 0 where
    pub closed : is_closed c a directory ≡ false
    pub ignored : is_ignored a (directory ++ n ∷ []) (d || not (is_nil ns)) ≡ false
    pub reached : reached_from c a (directory ++ n ∷ []) ns d ≡ true

  pub first : (directory : Key) (n : Text) (ns : Key) (d : Bool) → reached_from c a directory (n ∷ ns) d ≡ true → First directory n ns d
  first directory n ns d h =
      let (seen, kept) = and_parts (is_visible c a directory (n ∷ ns)) (is_kept a directory (n ∷ ns) d) h in
      let (open', visible) = and_parts (not (is_closed c a directory)) (is_visible c a (directory ++ n ∷ []) ns) seen in
      let (one, more) = and_parts (not (is_ignored a (directory ++ n ∷ []) (d || not (is_nil ns))))
      (is_kept a (directory ++ n ∷ []) ns d) kept in
      record { closed = not-true _ open'; ignored = not-true _ one; reached = and_from _ _ visible more }

  first-reached : (directory : Key) (n : Text) (ns : Key) (d : Bool) → First directory n ns d → reached_from c a directory (n ∷ ns) d ≡ true
  first-reached directory n ns d f =
      let (visible, kept) = and_parts (is_visible c a (directory ++ n ∷ []) ns) (is_kept a (directory ++ n ∷ []) ns d) f.reached in
      and_from (is_visible c a directory (n ∷ ns)) (is_kept a directory (n ∷ ns) d)
      (and_from _ _ (not_from_false _ f.closed) visible) (and_from _ _ (not_from_false _ f.ignored) kept)

  -- what is reached, one name further
  pub reached-further : (directory ns at : Key) (n : Text) (d : Bool) → at ≡ directory ++ ns → reached_from c a directory ns true ≡ true
      → is_closed c a at ≡ false → is_ignored a (at ++ n ∷ []) d ≡ false → reached_from c a directory (ns ++ n ∷ []) d ≡ true
  reached-further directory [] at n d is h closed ignored =
      let same : directory ≡ at = sym (append-nil directory) ∙ sym is in
      first-reached directory n [] d (record {
        closed = ap (is_closed c a) same ∙ closed;
        ignored = ap₂ (λ k e. is_ignored a (k ++ n ∷ []) e) same (or-false d) ∙ ignored;
        reached = refl;
      })
  reached-further directory (m ∷ ms) at n d is h closed ignored =
      let f = first directory m ms true h in
      first-reached directory m (ms ++ n ∷ []) d (record {
        closed = f.closed;
        ignored = ap (is_ignored a (directory ++ m ∷ [])) (or_right d (not (is_nil (ms ++ n ∷ []))) (some-names ms n)) ∙ f.ignored;
        reached = reached-further (directory ++ m ∷ []) ms at n d (is ∙ sym (append_assoc directory (m ∷ []) ms)) f.reached closed ignored;
      })

  -- a directory that is not closed gives what its entries give
  pub inside-entries : (names : Key) (kind : Kind) (entries : List Gift) → kind_at c (c.current ++ names) ≡ Some kind
      → is_dir kind ≡ true → is_closed c a names ≡ false
      → inside a names (Some kind) entries ≡ entries
  inside-entries names Dir entries held d closed = refl
  inside-entries names (Shut kind) entries held d closed =
      cond-false (is_listed a names) _ entries (sym (ap (λ k. is_shut k && is_listed a names) held) ∙ closed)
  inside-entries names Other entries held d closed = absurd (false≢true d)

-- what is at a key is in a directory
pub dir-above : (c : Content) → IsContent c → (k : Key) (n : Text) (ns : Key) (kind : Kind) → kind_at c (k ++ n ∷ ns) ≡
    Some kind → is_dir_at c k ≡ true
dir-above c w k n [] kind held =
    let placed = list_all-contains (is_placed c) c.kinds (k ++ n ∷ [], kind) w.placed (contains_kind_at c (k ++ n ∷ []) kind held) in
    ap (is_dir_at c) (sym (parent_key-append k n)) ∙ (and_parts (list_all (λ m. is_utf8 m && is_proper m)
    (k ++ n ∷ [])) (is_dir_at c (parent_key (k ++ n ∷ []))) placed).1
dir-above c w k n (m ∷ ns) kind held =
    all_above c w k (n ∷ []) (dir-above c w (k ++ n ∷ []) m ns kind (ap (kind_at c) (append_assoc k (n ∷ []) (m ∷ ns)) ∙ held))

longest_from : (n : ℕ) (es : List (Key × Kind)) → n ≤ fold (λ m e. max m (length e.0)) n es
longest_from n [] = omega arith
longest_from n (e ∷ es) = omega (arith, longest_from (max n (length e.0)) es)

longest : (n : ℕ) (es : List (Key × Kind)) (e : Key × Kind) → Contains es e → length e.0 ≤ fold (λ m f. max m (length f.0)) n es
longest n [] e in' = absurd (Contains-nil e in')
longest n (f ∷ es) e in' = ⊎_elim
    (λ same. omega (arith, longest_from (max n (length f.0)) es, ap (λ g. length g.0) same))
    (λ later. longest (max n (length f.0)) es e later)
    (Contains-cases f es e in')

-- no key of the content has as many names as a search goes down
pub within-levels : (c : Content) (k names : Key) (kind : Kind) → kind_at c (k ++ names) ≡ Some kind → length names + 1 ≤ levels c
within-levels c k names kind held =
    let l = longest 0 c.kinds (k ++ names, kind) (contains_kind_at c (k ++ names) kind held) in
    omega (arith, l, length-append k names)
