-- Paths that name keys, and the directories of those keys.
use Rattle.std.proofs.Common.{◌≡◌, ◌≢◌, ℕ, suc, ◌<◌, Bool, true, false, cond, not, ◌&&◌, List, [], ◌∷◌, ◌++◌, length}
use Rattle.std.proofs.Common.{take, drop, Option, Some, None, refl, ap, sym, subst, ◌∙◌, arith, lit<}
use Rattle.std.specs.Prelude.{slice_index, ◌==◌, is_some}
use Rattle.std.specs.List.{list_all}
use Rattle.std.specs.Str.{is_utf8, IsUtf8, IsCharBoundary, NoCharPasses}
use Rattle.std.proofs.lemmas.Str.{is_utf8-from_IsUtf8, IsUtf8-drop}
use Rattle.std.specs.Str.Pattern.{HasCharAt}
use Rattle.std.proofs.lemmas.Str.Pattern.{NoCharPasses-char, drop_at_char}
use Rattle.std.specs.Path.{has_no_slash}
use Rattle.std.proofs.lemmas.Bool.{and_parts, and_from, ne_eqb, not_from_false, both_ways, false_from_ne_true}
use Rattle.std.proofs.lemmas.List.{append_assoc, append-nil, take-append-drop}
use Rattle.std.proofs.lemmas.Option.{none-some, same_Some, cond_some}
use Rattle.glob_text.specs.Characters.{slash}
use Rattle.glob_text.specs.Text.{Text}
use Rattle.glob_tree.specs.Paths.{is_proper}
use Rattle.glob_text.specs.Pieces.{pieces, begins_with}
use Rattle.glob_tree.specs.Content.{Content, Key, kind_at, is_dir_at, is_content, step, steps, resolve}
use Rattle.glob_tree.specs.Memory.{key_of}
use Rattle.glob_tree.specs.Private.Nodes.{root_entry, entry_numbered, key_numbered, entries_of_nodes, rooted_content, content_at}
use Rattle.glob_tree.specs.Private.Numbers.{Leads, IsFoundAt}
use Rattle.glob_tree.specs.declared.kind.Kind.{Kind}
use Rattle.glob_tree.proofs.ContentLemmas.Contents.{IsContent, IsContent-from_test}
use Rattle.glob_tree.proofs.ContentLemmas.Directories.{IsName-from_proper, step_name, all_above, directory_kind}
use Rattle.glob_tree.proofs.ContentLemmas.Resolving.{steps_none, step_down, step_none, resolve_steps, pieces-append, pieces_one}
use Rattle.glob_tree.proofs.MemoryLemmas.Following.{steps_any}

-- a text without a separator at any index
pub no_slash_from_places : (text : Text) → ((i : ℕ) → i < length text → slice_index text i ≢ slash) → has_no_slash text ≡ true
no_slash_from_places [] h = refl
no_slash_from_places (x ∷ xs) h = and_from (not (x == slash)) (has_no_slash xs)
    (not_from_false (x == slash) (ne_eqb x slash (h 0 (omega arith))))
    (no_slash_from_places xs (λ i l. h (suc i) (omega (arith, l))))

pub key_of_none : (path : Text) → ((names : Text) → path ≢ slash ∷ names) → key_of path ≡ None
key_of_none [] h = refl
key_of_none (x ∷ xs) h =
    let other : (x == slash) ≡ false = ne_eqb x slash (λ same. h xs (ap (λ c. c ∷ xs) same)) in
    ap (λ b. cond (b && list_all is_proper (pieces xs)) (Some (pieces xs)) None) other

-- a name leads to the key with that name added, or nowhere
step_along : (c : Content) (k : Key) (name : Text) (m : Key) → is_proper name ≡ true → step c name k ≡ Some m → m ≡ k ++ name ∷ []
step_along c k name m proper h = by_directory (is_dir_at c k) refl
  where
    by_directory : (b : Bool) → is_dir_at c k ≡ b → m ≡ k ++ name ∷ []
    by_directory true d =
        let is = IsName-from_proper name proper in
        sym (cond_some (is_some (kind_at c (k ++ name ∷ []))) (k ++ name ∷ []) m (sym (step_down c k name d is.leads is.down) ∙ h)).1
    by_directory false d = absurd (none-some m (sym (step_none c k name d) ∙ h))

-- names that lead to a directory do so step by step
pub steps_to_directory : (c : Content) → IsContent c → (k names : Key) → list_all is_proper names ≡ true → is_dir_at c (k ++ names) ≡ true
    → steps c (Some k) names ≡ Some (k ++ names)
steps_to_directory c w k [] proper d = ap Some (sym (append-nil k))
steps_to_directory c w k (name ∷ names) proper d =
    let both = and_parts (is_proper name) (list_all is_proper names) proper in
    let further : is_dir_at c ((k ++ name ∷ []) ++ names) ≡ true = ap (is_dir_at c) (append_assoc k (name ∷ []) names) ∙ d in
    let (kind, entries_of_nodes) = directory_kind c (k ++ name ∷ []) (all_above c w (k ++ name ∷ []) names further) in
    ap (λ o. steps c o names) (step_name c k name (IsName-from_proper name both.0) (all_above c w k (name ∷ names) d) kind entries_of_nodes)
    ∙ steps_to_directory c w (k ++ name ∷ []) names both.1 further
    ∙ ap Some (append_assoc k (name ∷ []) names)

-- names lead to the key with those names added, or nowhere
pub steps_along : (c : Content) (k names l : Key) → list_all is_proper names ≡ true → steps c (Some k) names ≡ Some l → l ≡ k ++ names
steps_along c k [] l proper h = sym (same_Some k l h) ∙ sym (append-nil k)
steps_along c k (name ∷ names) l proper h =
    let both = and_parts (is_proper name) (list_all is_proper names) proper in
    along (step c name k) refl h (λ m is on. steps_along c m names l both.1 on ∙ ap (λ j. j ++ names)
    (step_along c k name m both.0 is) ∙ append_assoc k (name ∷ []) names)
  where
    along : (o : Option Key) → step c name k ≡ o → steps c o names ≡ Some l → ((m : Key) → step c name k ≡ Some m
        → steps c (Some m) names ≡ Some l → l ≡ k ++ name ∷ names) → l ≡ k ++ name ∷ names
    along None is h then = absurd (none-some l (sym (steps_none c names) ∙ h))
    along (Some m) is h then = then m is h

-- a text without a separator among its characters
pub no_slash_from_chars : (text rest : Text) → text ≡ rest → NoCharPasses (λ c. c == slash) rest → has_no_slash text ≡ true
no_slash_from_chars text rest is none = ap has_no_slash is ∙ no_slash_from_places rest (λ i l. NoCharPasses-char slash
    rest i none (lit< tt) l)

-- a text of proper names is not empty
proper_some : (names : Text) → list_all is_proper (pieces names) ≡ true → 0 < length names
proper_some [] h = absurd (both_ways false refl h)
proper_some (x ∷ xs) h = omega arith

module _ (entries : List (Key × Kind)) (root : ℕ) (content : is_content (rooted_content entries) ≡ true)
    (is_root : entry_numbered entries root ≡ root_entry) where
  -- where proper names lead from the root
  resolve_names : (names : Text) → list_all is_proper (pieces names) ≡ true → resolve (content_at entries root) names ≡
      steps (rooted_content entries) (Some []) (pieces names)
  resolve_names names proper =
      resolve_steps (content_at entries root) names (proper_some names proper)
      ∙ ap (λ k. steps (content_at entries root) (Some k) (pieces names)) (from_root (begins_with slash names))
      ∙ steps_any entries (key_numbered entries root) [] (Some []) (pieces names)
    where
      from_root : (b : Bool) → cond b [] (key_numbered entries root) ≡ []
      from_root true = refl
      from_root false = ap (λ e. e.0) is_root

  pub find_directory : (names : Text) → list_all is_proper (pieces names) ≡ true → (number : Option ℕ) → Leads entries
      number (resolve (content_at entries root) names)
      → IsFoundAt entries (pieces names) number
  find_directory names proper None leads = false_from_ne_true (is_dir_at (rooted_content entries) (pieces names)) (λ d.
      let there = steps_to_directory (rooted_content entries) (IsContent-from_test (rooted_content entries) content) []
      (pieces names) proper d in
      none-some (pieces names) (leads.0 ∙ resolve_names names proper ∙ there))
  find_directory names proper (Some n) leads = (
    leads.1,
    steps_along (rooted_content entries) [] (pieces names) (key_numbered entries n) proper
        (sym (leads.0 ∙ resolve_names names proper)),
  )

-- a text cut before its last name
pub pieces_last : (names directory name rest : Text) → names ≡ directory ++ slash ∷ name → name ≡ rest → NoCharPasses (λ c. c == slash) rest
    → pieces names ≡ pieces directory ++ name ∷ []
pieces_last names directory name rest whole is none =
    ap pieces whole ∙ pieces-append directory name ∙ ap (λ ps. pieces directory ++ ps) (pieces_one name
    (no_slash_from_chars name rest is none))

-- a text cut at a separator
pub cut_at_slash : (names directory name : Text) (i j : ℕ) → directory ≡ take i names → name ≡ drop j names
    → HasCharAt slash names i j → names ≡ directory ++ slash ∷ name
cut_at_slash names directory name i j before after at =
    sym (take-append-drop i names) ∙ (λ k. sym before k ++ (drop_at_char slash names i j at (lit< tt) ∙ ap
    (λ rest. slash ∷ rest) (sym after)) k)

-- the rest after a separator is UTF-8
pub utf8_after : (names name : Text) (i j : ℕ) → IsUtf8 names → name ≡ drop j names → HasCharAt slash names i j → is_utf8 name ≡ true
utf8_after names name i j text after at =
    is_utf8-from_IsUtf8 name (subst IsUtf8 (sym after) (IsUtf8-drop names j text (subst (IsCharBoundary names) (sym at.ends) at.after)))
