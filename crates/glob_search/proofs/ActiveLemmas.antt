-- Which rules are active in a directory. The last list that says something decides as the rules of the search's aim do.
use Rattle.std.proofs.Common.{◌≡◌, ℕ, ◌+◌, ◌<◌, ◌≤◌, ⊎_elim, eqb, Bool, true, false, List, [], ◌∷◌, ◌++◌, length, take, drop}
use Rattle.std.proofs.Common.{get_or, Option, Some, None, refl, ap, ap₂, sym, subst, ◌∙◌, arith}
use Rattle.std.specs.Prelude.{unwrap_or, fold, option_map, nat_le, nat_lt, slice_index, ◌||◌}
use Rattle.std.specs.List.{All, join_with_byte}
use Rattle.std.specs.Option.{option_or}
use Rattle.std.specs.Path.{with_separator}
use Rattle.std.specs.Str.{IsCharBoundary, IsUtf8}
use Rattle.std.proofs.lemmas.Bool.{and_from, and_parts, cases_lt, cond-false, cond-true, cond_both, eqb-true, false_from_ne_true, le-leb, leb-true}
use Rattle.std.proofs.lemmas.Bool.{lt-ltb, ltb-true, or_cases, or_left, or_right}
use Rattle.std.proofs.lemmas.List.{nil_from_length}
use Rattle.std.proofs.lemmas.List.{append_assoc, append-nil, length-map, map-append, length-append, take-map, take_at}
use Rattle.std.proofs.lemmas.List.{drop_at, get_or_at, get_or_past, length_push}
use Rattle.std.proofs.lemmas.List.Elements.{All-append, All-cons, All-take, All-map}
use Rattle.std.proofs.lemmas.List.Folds.{fold-map}
use Rattle.std.proofs.lemmas.List.Sums.{fold-append}
use Rattle.std.proofs.lemmas.Option.{same_Some}
use Rattle.std.proofs.lemmas.Str.{IsCharBoundary-start, IsCharBoundary-after_ascii}
use Rattle.glob_text.specs.Characters.{slash}
use Rattle.glob_text.specs.Text.{Text}
use Rattle.glob_tree.specs.Content.{Key}
use Rattle.glob_tree.specs.Paths.{child, is_here, join}
use Rattle.glob_rules.specs.Lists.{Ignores, rules_of}
use Rattle.glob_search.specs.Kept.{AreOfFiles, IsOfFile, after_bytes, given_rules, is_boundary}
use Rattle.glob_search.specs.Private.Active.{active_lists, after, above_of, lists_in, lists_down, lists_above, lists_at}
use Rattle.glob_search.specs.Private.Active.{active_said, AreActive, rules_here}
use Rattle.glob_search.specs.Aims.{outer_of}
use Rattle.glob_search.specs.Searching.{Aim, said, last_said, files_said, is_ignored, outer_said}
use Rattle.glob_search.specs.declared.active.FileRules.{FileRules}
use Rattle.glob_search.specs.declared.active.ActiveRules.{ActiveRules}

-- a path after an empty path stays as it is
pub join-nothing : (prefix path : Text) → eqb (length prefix) 0 ≡ true → join prefix path ≡ path
unfolding join
join-nothing prefix path none = ap (λ p. with_separator p ++ path) (nil_from_length prefix (eqb-true (length prefix) 0 none))

pub length-active_lists : {A : Type 0} (files : List (FileRules A)) → length (active_lists files) ≡ length files
length-active_lists files = length-map files (λ f. (f.above, f.list))

-- one more file
pub active_lists-push : {A : Type 0} (files : List (FileRules A)) (f : FileRules A) → active_lists (files ++ f ∷ []) ≡ active_lists
    files ++ (f.above, f.list) ∷ []
active_lists-push files f = map-append (λ f. (f.above, f.list)) files (f ∷ [])

-- only the first ones are left
pub active_lists-take : {A : Type 0} (files : List (FileRules A)) (kept gone : List (ℕ × Ignores)) (n : ℕ) → active_lists files
    ≡ kept ++ gone → n ≡ length kept
    → active_lists (take n files) ≡ kept
active_lists-take files kept gone n are len =
    sym (take-map (λ f. (f.above, f.list)) n files) ∙ ap (take n) are ∙ take_at kept gone n (sym len)

-- on the way down to one more name there is one more directory
pub lists_down-child : (lists : List (ℕ × Ignores)) (a : Aim) (directory names : Key) (n : Text)
    → lists_down lists a directory (names ++ n ∷ []) ≡ lists_down lists a directory names ++ lists_in a (directory ++ names)
lists_down-child lists a directory [] n = ap (λ d. lists ++ lists_in a d) (sym (append-nil directory))
lists_down-child lists a directory (m ∷ ms) n =
    lists_down-child (lists ++ lists_in a directory) a (directory ++ m ∷ []) ms n
    ∙ ap (λ d. lists_down (lists ++ lists_in a directory) a (directory ++ m ∷ []) ms ++ lists_in a d) (append_assoc directory (m ∷ []) ms)

pub lists_above-child : (a : Aim) (directory : Key) (n : Text) → lists_above a (directory ++ n ∷ []) ≡ lists_at a directory
lists_above-child a directory n = lists_down-child [] a [] directory n

pub lists_at-child : (a : Aim) (directory : Key) (n : Text) → lists_at a (directory ++ n ∷ []) ≡ lists_at a directory
    ++ lists_in a (directory ++ n ∷ [])
lists_at-child a directory n = ap (λ lists. lists ++ lists_in a (directory ++ n ∷ [])) (lists_above-child a directory n)

pub or-none : {A : Type 0} (o : Option A) → option_or o None ≡ o
or-none None = refl
or-none (Some x) = refl

pub or_assoc : {A : Type 0} (o p q : Option A) → option_or o (option_or p q) ≡ option_or (option_or o p) q
or_assoc None p q = refl
or_assoc (Some x) p q = refl

-- what later lists say overrides what earlier lists say
pub said-after : {X : Type 0} (says : X → Option Bool) (start : Option Bool) (xs : List X)
    → fold (λ before x. option_or (says x) before) start xs
    ≡ option_or (fold (λ before x. option_or (says x) before) None xs) start
said-after says start [] = refl
said-after says start (x ∷ xs) =
    let later = fold (λ before y. option_or (says y) before) None xs in
    said-after says (option_or (says x) start) xs
    ∙ or_assoc later (says x) start
    ∙ ap (λ o. option_or o start)
    (ap (option_or later) (sym (or-none (says x))) ∙ sym (said-after says (option_or (says x) None) xs))

said-append : (lists more : List (ℕ × Ignores)) (path : Text) (d : Bool)
    → active_said (lists ++ more) path d ≡ option_or (active_said more path d) (active_said lists path d)
said-append lists more path d =
    fold-append (λ before l. option_or (said l.1 (drop l.0 path) d) before) None lists more
    ∙ said-after (λ l. said l.1 (drop l.0 path) d) (active_said lists path d) more

-- lists that see a path after this many bytes
said-below : (above : ℕ) (lists : List Ignores) (path : Text) (d : Bool) → active_said (after above lists) path d ≡
    last_said lists (drop above path) d
said-below above lists path d = fold-map (λ before l. option_or (said l.1 (drop l.0 path) d) before) (λ l. (above, l)) None lists

join-append : (n : Text) (ns : Key) (m : Text) (ms : Key) → join_with_byte slash (n ∷ (ns ++ m ∷ ms)) ≡ join_with_byte
    slash (n ∷ ns) ++ slash ∷ join_with_byte slash (m ∷ ms)
join-append n [] m ms = refl
join-append n (p ∷ ps) m ms =
    ap (λ t. n ++ slash ∷ t) (join-append p ps m ms) ∙ sym (append_assoc n (slash ∷ join_with_byte slash (p ∷ ps))
    (slash ∷ join_with_byte slash (m ∷ ms)))

-- the names after a directory's in a path
pub drop-above : (directory : Key) (m : Text) (ms : Key) → drop (above_of directory) (join_with_byte slash
    (directory ++ m ∷ ms)) ≡ join_with_byte slash (m ∷ ms)
drop-above [] m ms = refl
drop-above (n ∷ ns) m ms =
    let front = join_with_byte slash (n ∷ ns) in
    let rest = join_with_byte slash (m ∷ ms) in
    ap (drop (length front + 1)) (join-append n ns m ms ∙ sym (append_assoc front (slash ∷ []) rest))
    ∙ drop_at (front ++ slash ∷ []) rest (length front + 1) (length_push front slash)

-- on the way down the files of each directory are asked, the deeper ones first
said-down : (lists : List (ℕ × Ignores)) (a : Aim) (directory names : Key) (path : Text) (d : Bool)
    → path ≡ join_with_byte slash (directory ++ names)
    → active_said (lists_down lists a directory names) path d ≡ option_or (files_said a directory names d) (active_said lists path d)
said-down lists a directory [] path d is = refl
said-down lists a directory (n ∷ ns) path d is =
    let deeper = files_said a (directory ++ n ∷ []) ns d in
    let below = last_said (a.rules_in directory) (join_with_byte slash (n ∷ ns)) d in
    let own : active_said (lists_in a directory) path d ≡ below =
    said-below (above_of directory) (a.rules_in directory) path d
    ∙ ap (λ p. last_said (a.rules_in directory) p d) (ap (drop (above_of directory)) is ∙ drop-above directory n ns) in
    said-down (lists ++ lists_in a directory) a (directory ++ n ∷ []) ns path d (is ∙ ap (join_with_byte slash)
    (sym (append_assoc directory (n ∷ []) ns)))
    ∙ ap (option_or deeper) (said-append lists (lists_in a directory) path d ∙ ap (λ o. option_or o (active_said lists path d)) own)
    ∙ or_assoc deeper below (active_said lists path d)

-- the rules that are active in a directory decide about a name in it
pub is_ignored-active : {A : Type 0} (a : Aim) (directory : Key) (n : Text) (h : ActiveRules A) (path : Text) (d : Bool)
    → AreActive a directory h
    → path ≡ join_with_byte slash (directory ++ n ∷ [])
    → is_ignored a (directory ++ n ∷ []) d ≡ unwrap_or (option_or (active_said (active_lists h.first.items) path d)
    (option_or (active_said (active_lists h.files.items) path d) (outer_said (outer_of h.last.items) path d))) false
is_ignored-active a directory n h path d are_active is =
    let first : last_said a.first path d ≡ active_said (active_lists h.first.items) path d =
    sym (ap (λ lists. active_said lists path d) are_active.first ∙ said-below 0 a.first path d) in
    let files : files_said a [] (directory ++ n ∷ []) d ≡ active_said (active_lists h.files.items) path d =
    sym (ap (λ lists. active_said lists path d) (are_active.files ∙ sym (lists_above-child a directory n))
    ∙ said-down [] a [] (directory ++ n ∷ []) path d is
    ∙ or-none (files_said a [] (directory ++ n ∷ []) d)) in
    let last : outer_said a.last path d ≡ outer_said (outer_of h.last.items) path d =
    sym (ap (λ lists. outer_said lists path d) are_active.last) in
    ap (λ p. unwrap_or (option_or (last_said a.first p d) (option_or (files_said a [] (directory ++ n ∷ []) d)
    (outer_said a.last p d))) false) (sym is)
    ∙ ap₂ (λ o p. unwrap_or (option_or o p) false) first (ap₂ option_or files last)

-- a path may be cut after a directory on its way
above-boundary : (directory : Key) (m : Text) (ms : Key) (path : Text) → path ≡ join_with_byte slash (directory ++ m ∷ ms) → IsUtf8 path
    → IsCharBoundary path (above_of directory)
above-boundary [] m ms path is utf8 = IsCharBoundary-start path utf8
above-boundary (n ∷ ns) m ms path is utf8 =
    let front = join_with_byte slash (n ∷ ns) in
    let rest = join_with_byte slash (m ∷ ms) in
    let split : path ≡ front ++ slash ∷ rest = is ∙ join-append n ns m ms in
    let within : length front < length path = omega (arith, ap length split ∙ length-append front (slash ∷ rest)) in
    let there : get_or path (length front) 0 ≡ slash = ap (λ p. get_or p (length front) 0) split ∙ get_or_at front
    slash rest 0 (length front) refl in
    IsCharBoundary-after_ascii path (length front) utf8 within (omega (arith, there))

-- lists that see a path after this many bytes, where it may be cut
after-boundaries : (above : ℕ) (lists : List Ignores) (path : Text) → IsCharBoundary path above → All
    (λ l. IsCharBoundary path l.0) (after above lists)
after-boundaries above lists path cut = All-map (λ l. IsCharBoundary path l.0) (λ l. (above, l)) lists (λ k d lt. cut)

down-boundaries : (lists : List (ℕ × Ignores)) (a : Aim) (directory names : Key) (path : Text) → path ≡ join_with_byte
    slash (directory ++ names) → IsUtf8 path
    → All (λ l. IsCharBoundary path l.0) lists → All (λ l. IsCharBoundary path l.0) (lists_down lists a directory names)
down-boundaries lists a directory [] path is utf8 all = all
down-boundaries lists a directory (n ∷ ns) path is utf8 all =
    down-boundaries (lists ++ lists_in a directory) a (directory ++ n ∷ []) ns path (is ∙ ap (join_with_byte slash)
    (sym (append_assoc directory (n ∷ []) ns))) utf8
    (All-append (λ l. IsCharBoundary path l.0) lists (lists_in a directory) all
    (after-boundaries (above_of directory) (a.rules_in directory) path (above-boundary directory n ns path is utf8)))

-- each list that is active in a directory sees the path of a name in it
pub active-boundaries : {A : Type 0} (a : Aim) (directory : Key) (n : Text) (h : ActiveRules A) (path : Text) → AreActive a directory h
    → path ≡ join_with_byte slash (directory ++ n ∷ []) → IsUtf8 path
    → All (λ l. IsCharBoundary path l.0) (active_lists h.first.items) × All (λ l. IsCharBoundary path l.0) (active_lists h.files.items)
active-boundaries a directory n h path are_active is utf8 =
    let start = IsCharBoundary-start path utf8 in (
      subst (All (λ l. IsCharBoundary path l.0)) (sym are_active.first) (after-boundaries 0 a.first path start),
      subst (All (λ l. IsCharBoundary path l.0)) (lists_above-child a directory n ∙ sym are_active.files)
          (down-boundaries [] a [] (directory ++ n ∷ []) path is utf8 (after-boundaries 0 [] path start)),
    )

-- a path may be cut where no character goes on
pub is_boundary-at : (path : Text) (n : ℕ) → IsCharBoundary path n → is_boundary path n ≡ true
is_boundary-at path n (within, cut) =
    and_from (nat_le n (length path)) _ (le-leb n (length path) within) (⊎_elim inside at_end (cases_lt n (length path)))
  where
    byte : ℕ
    byte = slice_index path n

    inside : n < length path → (nat_lt byte 128 || nat_le 192 byte) ≡ true
    inside lt = ⊎_elim (λ low. or_left (nat_lt byte 128) (nat_le 192 byte) (lt-ltb byte 128 low))
        (λ high. or_right (nat_lt byte 128) (nat_le 192 byte) (le-leb 192 byte (cut lt high)))
        (cases_lt byte 128)

    at_end : length path ≤ n → (nat_lt byte 128 || nat_le 192 byte) ≡ true
    at_end past = or_left (nat_lt byte 128) (nat_le 192 byte) (lt-ltb byte 128 (omega (arith, get_or_past path n 0 past)))

-- and only there
pub boundary-from : (path : Text) (n : ℕ) → is_boundary path n ≡ true → IsCharBoundary path n
boundary-from path n is =
    let byte = slice_index path n in
    let parts = and_parts (nat_le n (length path)) (nat_lt byte 128 || nat_le 192 byte) is in (
      leb-true n (length path) parts.0,
      λ lt high. ⊎_elim (λ low. absurd (omega (arith, ltb-true byte 128 low, high))) (λ lead. leb-true 192 byte lead)
          (or_cases (nat_lt byte 128) (nat_le 192 byte) parts.1),
    )

pub after_bytes-boundary : (path : Text) (n : ℕ) → IsCharBoundary path n → after_bytes n path ≡ drop n path
after_bytes-boundary path n cut = cond-true (is_boundary path n) (drop n path) path (is_boundary-at path n cut)

pub after_bytes-inside : (path : Text) (n : ℕ) → (IsCharBoundary path n → ⊥) → after_bytes n path ≡ path
after_bytes-inside path n inside =
    cond-false (is_boundary path n) (drop n path) path (false_from_ne_true (is_boundary path n) (λ cut. inside (boundary-from path n cut)))

-- the lists before any file is read
pub rules-given : {A : Type 0} (h : ActiveRules A) (first : List Ignores) (last : List (Text × Ignores))
    → active_lists h.first.items ≡ after 0 first → active_lists h.files.items ≡ [] → outer_of h.last.items ≡ last
    → rules_here h ≡ given_rules first last
rules-given h first last is_first is_files is_last =
    ap₂ (λ f x. record { first = f; files = x; last = outer_of h.last.items }) is_first is_files
    ∙ ap (λ l. record { first = after 0 first; files = []; last = l }) is_last

pub child-long : (d n : Text) → length n ≤ length (child d n)
unfolding child join
child-long d n =
    cond_both (is_here d) n (with_separator d ++ n) (λ t. length n ≤ length t) (λ here. omega arith)
    (λ below. omega (arith, length-append (with_separator d) n))

-- the rules of one more file
pub files-push : {A : Type 0} (known : Text → Option Text) (names : List Text) (files new : List (FileRules A)) (f : FileRules A)
    → new ≡ files ++ f ∷ [] → AreOfFiles known names (active_lists files) → IsOfFile known names (f.above, f.list)
    → AreOfFiles known names (active_lists new)
files-push known names files new f items all one =
    subst (AreOfFiles known names) (sym (ap active_lists items ∙ active_lists-push files f))
    (All-append (IsOfFile known names) (active_lists files) ((f.above, f.list) ∷ []) all
    (All-cons (IsOfFile known names) (f.above, f.list) [] one (λ k d lt. absurd (omega (arith, lt)))))

-- the rules of files that are left
pub files-take : {A : Type 0} (known : Text → Option Text) (names : List Text) (files new : List (FileRules A)) (n : ℕ)
    → new ≡ take n files → AreOfFiles known names (active_lists files) → AreOfFiles known names (active_lists new)
files-take known names files new n items all =
    subst (AreOfFiles known names) (take-map (λ f. (f.above, f.list)) n files ∙ sym (ap active_lists items))
    (All-take (IsOfFile known names) n (active_lists files) all)

-- the text of a file whose rules were read
pub text-of : (list : Ignores) (o : Option Text) → Some list ≡ option_map rules_of o
    → (text : Text) × (o ≡ Some text) × (list ≡ rules_of text)
text-of list None is = absurd (nothing is)
  where
    nothing : Some list ≡ None → ⊥
    nothing e = cc
text-of list (Some text) is = (text, refl, same_Some list (rules_of text) is)
