-- Which rule of the lists decides.
use Rattle.std.proofs.Common.{◌≡◌, ℕ, zero, suc, ◌+◌, ◌<◌, Bool, true, false, not, ◌||◌, List, [], ◌∷◌, ◌++◌, length, drop, get_or}
use Rattle.std.proofs.Common.{map, Option, Some, None, refl, ap, ap₂, sym, ◌∙◌, arith}
use Rattle.std.specs.Prelude.{fold, option_map, string_bytes, unwrap_or}
use Rattle.std.specs.List.{All, cons_option, list_all, join_with_byte}
use Rattle.std.specs.Option.{option_or}
use Rattle.std.specs.Str.{IsCharBoundary}
use mathlib.Core.Bool.{or-false}
use Rattle.std.proofs.lemmas.Bool.{and_parts, cond-false, cond-true, not-true, or_right}
use Rattle.std.proofs.lemmas.List.{append_assoc, append-nil, drop-map, drop_more, get_or-map, length-map, map-append}
use Rattle.std.proofs.lemmas.List.Elements.{All-head, All-tail}
use Rattle.std.proofs.lemmas.Option.{same_Some}
use Rattle.glob_text.specs.Characters.{slash}
use Rattle.glob_text.specs.Pieces.{pieces}
use Rattle.glob_text.specs.Text.{Text}
use Rattle.glob_tree.specs.Content.{Key}
use Rattle.glob_tree.specs.Paths.{is_proper, join}
use Rattle.glob_rules.specs.Deciding.{naming_rule}
use Rattle.glob_rules.specs.Lists.{Ignores, rules_of}
use Rattle.glob_rules.specs.declared.rule.Rule.{Rule}
use Rattle.glob_search.specs.Aims.{outer_of, path_of, rules_from}
use Rattle.glob_search.specs.Asking.{Asked, File, First, Last, Origin, asked, asked_below, asked_in, last_rule, numbered, rule_about}
use Rattle.glob_search.specs.Asking.{rule_below}
use Rattle.glob_search.specs.Kept.{after_bytes, is_ignored_by, said_after}
use Rattle.glob_search.specs.Searching.{Aim, is_ignored, is_kept, is_nil, outer_said, said}
use Rattle.glob_search.specs.Private.Active.{AreActive, above_of, active_lists, active_said, after, lists_down, lists_in}
use Rattle.glob_search.specs.Private.Active.{rules_here}
use Rattle.glob_search.specs.Private.Asked.{cut_by, held_rule, last_of, seen_by, seen_by_outer, source_at}
use Rattle.glob_search.specs.Private.Entering.{IsAt, rule_names, sources_down}
use Rattle.glob_search.specs.Private.Reading.{sources_in, sources_of}
use Rattle.glob_search.specs.declared.active.ActiveRules.{ActiveRules}
use Rattle.glob_search.specs.declared.active.FileRules.{FileRules}
use Rattle.glob_search.specs.declared.directories.Directories.{Directories}
use Rattle.glob_search.specs.declared.held.HeldRules.{HeldRules}
use Rattle.glob_search.specs.declared.outer.OuterRules.{OuterRules}
use Rattle.glob_search.proofs.ActiveLemmas.{after_bytes-boundary, drop-above, is_ignored-active, lists_above-child, or-none, or_assoc}
use Rattle.glob_search.proofs.ActiveLemmas.{said-after}
use Rattle.glob_search.proofs.AskingLemmas.{sources_down-child}
use Rattle.glob_search.proofs.KeptLemmas.{long}
use Rattle.glob_search.proofs.EngineLemmas.Paths.{AreProper}

-- what lists see of a path, and who names it
abbrev pub seen_at : (path : Text) → ℕ × Ignores → Ignores × Text
seen_at path l = (l.1, drop l.0 path)

abbrev pub seen_whole : (path : Text) → Ignores → Ignores × Text
seen_whole path l = (l, path)

abbrev pub seen_above : (path : Text) → Text × Ignores → Ignores × Text
seen_above path l = (l.1, join l.0 path)

abbrev pub asked_of : Asked → Ignores × Text
asked_of x = (x.rules, x.path)

abbrev pub counted : (ℕ → Origin) → ℕ × Rule → Origin × Rule
counted o p = (o p.0, p.1)

abbrev pub named_by : Origin → Rule → Origin × Rule
named_by g rule = (g, rule)

abbrev pub numbered_by : ℕ → Rule → ℕ × Rule
numbered_by n rule = (n, rule)

-- what is found further on is the last
pub found-from : (ls : List (Ignores × Text)) (i n m : ℕ) (d : Bool) (p : ℕ × Rule) → m ≡ n + i → last_of (drop i ls) d m ≡ Some p
    → last_of ls d n ≡ Some p
found-from ls zero n m d p at is = let same : n ≡ m = omega (arith, at) in ap (last_of ls d) same ∙ is
found-from [] (suc i) n m d p at is = absurd (nothing is)
  where
    nothing : None ≡ Some p → ⊥
    nothing e = cc
found-from (l ∷ ls) (suc i) n m d p at is =
    ap (λ o. option_or o (option_map (numbered_by n) (naming_rule l.0 l.1 d)))
    (found-from ls i (suc n) m d p (omega (arith, at)) is)

-- it is within the lists
pub last-within : (ls : List (Ignores × Text)) (d : Bool) (n : ℕ) (p : ℕ × Rule) → last_of ls d n ≡ Some p → p.0 < n + length ls
last-within [] d n p is = absurd (nothing is)
  where
    nothing : None ≡ Some p → ⊥
    nothing e = cc
last-within (l ∷ ls) d n p is = by_rest (last-within ls d (suc n)) (last_of ls d (suc n)) refl (naming_rule l.0 l.1 d) is
  where
    by_rest : ((q : ℕ × Rule) → last_of ls d (suc n) ≡ Some q → q.0 < suc n + length ls) → (o : Option (ℕ × Rule))
        → last_of ls d (suc n) ≡ o → (r : Option Rule) → option_or o (option_map (numbered_by n) r) ≡ Some p
        → p.0 < n + length (l ∷ ls)
    by_rest within None later None e = absurd (cc)
    by_rest within None later (Some rule) e = omega (arith, ap (λ q. q.0) (same_Some (n, rule) p e))
    by_rest within (Some q) later r e = omega (arith, within p (later ∙ e))

-- what a list names where no later one names anything
pub names-here : {A : Type 0} (files : List (FileRules A)) (i later : ℕ) (file : FileRules A) (path below : Text)
    (d : Bool) (answer : Option Rule)
    → i < length files → later ≡ i + 1 → file ≡ get_or files i file → below ≡ after_bytes file.above path
    → answer ≡ naming_rule file.list below d
    → last_of (cut_by path (drop later files)) d later ≡ None
    → last_of (cut_by path (drop i files)) d i ≡ option_map (numbered_by i) answer
names-here files i later file path below d answer lt next is cut says silent =
    let here : Option (ℕ × Rule) = option_map (numbered_by i) (naming_rule file.list (after_bytes file.above path) d) in
    let step : suc i ≡ later = omega (arith, next) in
    ap (λ fs. last_of (cut_by path fs) d i) (drop_more files i file lt ∙ ap₂ (λ f k. f ∷ drop k files) (sym is) (sym next))
    ∙ ap (λ k. option_or (last_of (cut_by path (drop later files)) d k) here) step
    ∙ ap (λ o. option_or o here) silent
    ∙ ap (option_map (numbered_by i)) (sym (says ∙ ap (λ p. naming_rule file.list p d) cut))

pub names-here_outer : {A : Type 0} (lists : List (OuterRules A)) (i later : ℕ) (list : OuterRules A) (path : Text) (d : Bool)
    (answer : Option Rule)
    → i < length lists → later ≡ i + 1 → list ≡ get_or lists i list
    → answer ≡ naming_rule list.list (join (string_bytes list.prefix) path) d
    → last_of (seen_by_outer path (drop later lists)) d later ≡ None
    → last_of (seen_by_outer path (drop i lists)) d i ≡ option_map (numbered_by i) answer
names-here_outer lists i later list path d answer lt next is says silent =
    let here : Option (ℕ × Rule) = option_map (numbered_by i) (naming_rule list.list (join (string_bytes list.prefix) path) d) in
    let step : suc i ≡ later = omega (arith, next) in
    ap (λ fs. last_of (seen_by_outer path fs) d i) (drop_more lists i list lt ∙ ap₂ (λ f k. f ∷ drop k lists) (sym is) (sym next))
    ∙ ap (λ k. option_or (last_of (seen_by_outer path (drop later lists)) d k) here) step
    ∙ ap (λ o. option_or o here) silent
    ∙ ap (option_map (numbered_by i)) (sym says)

pub found-at : {A : Type 0} (files : List (FileRules A)) (i : ℕ) (path : Text) (d : Bool) (rule : Rule)
    → last_of (cut_by path (drop i files)) d i ≡ Some (i, rule) → last_of (cut_by path files) d 0 ≡ Some (i, rule)
found-at {A} files i path d rule is =
    found-from (cut_by path files) i 0 i d (i, rule) (omega arith)
    (ap (λ ls. last_of ls d i) (drop-map (λ (f : FileRules A). (f.list, after_bytes f.above path)) i files) ∙ is)

pub found-at_outer : {A : Type 0} (lists : List (OuterRules A)) (i : ℕ) (path : Text) (d : Bool) (rule : Rule)
    → last_of (seen_by_outer path (drop i lists)) d i ≡ Some (i, rule) → last_of (seen_by_outer path lists) d 0 ≡ Some (i, rule)
found-at_outer {A} lists i path d rule is =
    found-from (seen_by_outer path lists) i 0 i d (i, rule) (omega arith)
    (ap (λ ls. last_of ls d i) (drop-map (λ (l : OuterRules A). (l.list, join (string_bytes l.prefix) path)) i lists) ∙ is)

-- of several lists the later ones come before the earlier ones
last_rule-append : (xs ys : List Asked) (d : Bool) → last_rule (xs ++ ys) d ≡ option_or (last_rule ys d) (last_rule xs d)
last_rule-append [] ys d = sym (or-none (last_rule ys d))
last_rule-append (x ∷ xs) ys d =
    let here = option_map (named_by x.origin) (naming_rule x.rules x.path d) in
    ap (λ o. option_or o here) (last_rule-append xs ys d) ∙ sym (or_assoc (last_rule ys d) (last_rule xs d) here)

-- a number is as good as an origin
map-or : (o : ℕ → Origin) (n : ℕ) (later : Option (ℕ × Rule)) (r : Option Rule)
    → option_or (option_map (counted o) later) (option_map (named_by (o n)) r)
    ≡ option_map (counted o) (option_or later (option_map (numbered_by n) r))
map-or o n None None = refl
map-or o n None (Some rule) = refl
map-or o n (Some p) r = refl

by-number : {X : Type 0} (o : ℕ → Origin) (rules : X → Ignores) (see : X → Text) (d : Bool) (n : ℕ) (xs : List X)
    → last_rule (numbered (λ k x. record { origin = o k; rules = rules x; path = see x }) n xs) d
    ≡ option_map (counted o) (last_of (map {B = Ignores × Text} (λ x. (rules x, see x)) xs) d n)
by-number o rules see d n [] = refl
by-number o rules see d n (x ∷ xs) =
    ap (λ later. option_or later (option_map (named_by (o n)) (naming_rule (rules x) (see x) d))) (by-number o rules see d (suc n) xs)
    ∙ map-or o n (last_of (map {B = Ignores × Text} (λ y. (rules y, see y)) xs) d (suc n)) (naming_rule (rules x) (see x) d)

by-origin : (o : ℕ → Origin) (xs : List Asked) (n : ℕ) (d : Bool)
    → ((k : ℕ) (e : Asked) → k < length xs → (get_or xs k e).origin ≡ o (n + k))
    → last_rule xs d ≡ option_map (counted o) (last_of (map asked_of xs) d n)
by-origin o [] n d at = refl
by-origin o (x ∷ xs) n d at =
    let start : n + 0 ≡ n = omega arith in
    ap₂ option_or
    (by-origin o xs (suc n) d (λ k e lt. let next : n + suc k ≡ suc n + k = omega arith in at (suc k) e (omega (arith, lt)) ∙ ap o next))
    (ap (λ g. option_map (named_by g) (naming_rule x.rules x.path d)) (at 0 x (omega arith) ∙ ap o start))
    ∙ map-or o n (last_of (map asked_of xs) d (suc n)) (naming_rule x.rules x.path d)

module _ (known : Text → Option Text) (files : List Text) where
  origins-in : (directory names : Key) (fs : List Text) → map (λ x. x.origin) (asked_in known fs directory names) ≡ map File
      (sources_in known fs directory)
  origins-in directory names [] = refl
  origins-in directory names (f ∷ fs) = by_text (origins-in directory names fs) (known (path_of (directory ++ f ∷ [])))
    where
      by_text : map (λ x. x.origin) (asked_in known fs directory names) ≡ map File (sources_in known fs directory) → (o : Option Text)
          → map (λ x. x.origin) (cons_option (option_map (λ text. record {
            origin = File (path_of (directory ++ f ∷ []));
            rules = rules_of text;
            path = join_with_byte slash names;
          }) o) (asked_in known fs directory names))
          ≡ map File (cons_option (option_map (λ (text : Text). path_of (directory ++ f ∷ [])) o) (sources_in known fs directory))
      by_text later None = later
      by_text later (Some text) = ap (λ os. File (path_of (directory ++ f ∷ [])) ∷ os) later

  origins-below : (directory names : Key) → map (λ x. x.origin) (asked_below known files directory names) ≡ map File
      (sources_down (sources_in known files) directory names)
  origins-below directory [] = refl
  origins-below directory (n ∷ ns) =
      map-append (λ x. x.origin) (asked_in known files directory (n ∷ ns)) (asked_below known files (directory ++ n ∷ []) ns)
      ∙ ap₂ (λ xs ys. xs ++ ys) (origins-in directory (n ∷ ns) files) (origins-below (directory ++ n ∷ []) ns)
      ∙ sym (map-append File (sources_in known files directory) (sources_down (sources_in known files) (directory ++ n ∷ []) ns))

  seen-in : (directory names : Key) (above : ℕ) (path : Text) → drop above path ≡ join_with_byte slash names → (fs : List Text)
      → map (seen_at path) (after above (rules_from known fs directory)) ≡ map asked_of
      (asked_in known fs directory names)
  seen-in directory names above path is [] = refl
  seen-in directory names above path is (f ∷ fs) = by_text (seen-in directory names above path is fs)
      (known (path_of (directory ++ f ∷ [])))
    where
      by_text : map (seen_at path) (after above (rules_from known fs directory)) ≡ map asked_of
          (asked_in known fs directory names) → (o : Option Text)
          → map (seen_at path) (after above (cons_option (option_map rules_of o) (rules_from known fs directory)))
          ≡ map asked_of (cons_option (option_map (λ text. record {
            origin = File (path_of (directory ++ f ∷ []));
            rules = rules_of text;
            path = join_with_byte slash names;
          }) o) (asked_in known fs directory names))
      by_text later None = later
      by_text later (Some text) = ap₂ (λ t ls. (rules_of text, t) ∷ ls) is later

  seen-down : (a : Aim) → ((directory : Key) → a.rules_in directory ≡ rules_from known files directory)
      → (lists : List (ℕ × Ignores)) (directory names : Key) (path : Text) → path ≡ join_with_byte slash (directory ++ names)
      → map (seen_at path) (lists_down lists a directory names)
      ≡ map (seen_at path) lists ++ map asked_of (asked_below known files directory names)
  seen-down a rules lists directory [] path is = sym (append-nil (map (seen_at path) lists))
  seen-down a rules lists directory (n ∷ ns) path is =
      let g = seen_at path in
      let h = asked_of in
      let own = asked_in known files directory (n ∷ ns) in
      let below = asked_below known files (directory ++ n ∷ []) ns in
      let here : map g (lists_in a directory) ≡ map h own =
      ap (λ rs. map g (after (above_of directory) rs)) (rules directory)
      ∙ seen-in directory (n ∷ ns) (above_of directory) path (ap (drop (above_of directory)) is ∙ drop-above directory n ns) files in
      seen-down a rules (lists ++ lists_in a directory) (directory ++ n ∷ []) ns path (is ∙ ap (join_with_byte slash)
      (sym (append_assoc directory (n ∷ []) ns)))
      ∙ ap (λ ls. ls ++ map h below) (map-append g lists (lists_in a directory) ∙ ap (λ ls. map g lists ++ ls) here)
      ∙ append_assoc (map g lists) (map h own) (map h below)
      ∙ ap (λ ls. map g lists ++ ls) (sym (map-append h own below))

seen-lists : {A : Type 0} (path : Text) (files : List (FileRules A)) → seen_by path files ≡ map (seen_at path) (active_lists files)
seen-lists path [] = refl
seen-lists path (f ∷ fs) = ap (λ ls. (f.list, drop f.above path) ∷ ls) (seen-lists path fs)

seen-first : (path : Text) (lists : List Ignores) → map (seen_at path) (after 0 lists) ≡ map (seen_whole path) lists
seen-first path [] = refl
seen-first path (l ∷ ls) = ap (λ xs. (l, path) ∷ xs) (seen-first path ls)

seen-outer : {A : Type 0} (path : Text) (lists : List (OuterRules A)) → seen_by_outer path lists ≡ map (seen_above path) (outer_of lists)
seen-outer path [] = refl
seen-outer path (l ∷ ls) = ap (λ xs. (l.list, join (string_bytes l.prefix) path) ∷ xs) (seen-outer path ls)

-- A negative rule does not ignore the path.
abbrev pub ignores_by : ℕ × Rule → Bool
ignores_by p = not p.1.negative

says-or : (n : ℕ) (later : Option (ℕ × Rule)) (r : Option Rule)
    → option_or (option_map ignores_by later) (option_map (λ rule. not rule.negative) r)
    ≡ option_map ignores_by (option_or later (option_map (numbered_by n) r))
says-or n None None = refl
says-or n None (Some rule) = refl
says-or n (Some p) r = refl

-- what lists say is what the last rule says that names what they see
says-last : {X : Type 0} (rules : X → Ignores) (see : X → Text) (d : Bool) (n : ℕ) (xs : List X)
    → fold (λ before x. option_or (said (rules x) (see x) d) before) None xs
    ≡ option_map ignores_by (last_of (map {B = Ignores × Text} (λ x. (rules x, see x)) xs) d n)
says-last rules see d n [] = refl
says-last rules see d n (x ∷ xs) =
    let here = said (rules x) (see x) d in
    said-after (λ y. said (rules y) (see y) d) (option_or here None) xs
    ∙ ap₂ option_or (says-last rules see d (suc n) xs) (or-none here)
    ∙ says-or n (last_of (map {B = Ignores × Text} (λ y. (rules y, see y)) xs) d (suc n)) (naming_rule (rules x) (see x) d)

active-says : {A : Type 0} (files : List (FileRules A)) (path : Text) (d : Bool) (answer : Option (ℕ × Rule))
    → answer ≡ last_of (seen_by path files) d 0 → active_said (active_lists files) path d ≡ option_map ignores_by answer
active-says files path d answer is =
    says-last (λ l. l.1) (λ l. drop l.0 path) d 0 (active_lists files)
    ∙ ap (λ ls. option_map ignores_by (last_of ls d 0)) (sym (seen-lists path files))
    ∙ ap (option_map ignores_by) (sym is)

pub outer-says : {A : Type 0} (lists : List (OuterRules A)) (path : Text) (d : Bool) (answer : Option (ℕ × Rule))
    → answer ≡ last_of (seen_by_outer path lists) d 0 → outer_said (outer_of lists) path d ≡ option_map ignores_by answer
outer-says lists path d answer is =
    says-last (λ l. l.1) (λ l. join l.0 path) d 0 (outer_of lists)
    ∙ ap (λ ls. option_map ignores_by (last_of ls d 0)) (sym (seen-outer path lists))
    ∙ ap (option_map ignores_by) (sym is)

-- The rules that are active decide about a name by what these lists name.
pub ignored-by : {A : Type 0} (a : Aim) (directory : Key) (n : Text) (h : ActiveRules A) (path : Text) (d : Bool)
    → AreActive a directory h → path ≡ join_with_byte slash (directory ++ n ∷ []) → (first files last : Option (ℕ × Rule))
    → first ≡ last_of (seen_by path h.first.items) d 0 → files ≡ last_of (seen_by path h.files.items) d 0
    → last ≡ last_of (seen_by_outer path h.last.items) d 0
    → is_ignored a (directory ++ n ∷ []) d
    ≡ unwrap_or (option_or (option_map ignores_by first) (option_or (option_map ignores_by files) (option_map ignores_by last))) false
ignored-by a directory n h path d are_active is first files last is_first is_files is_last =
    is_ignored-active a directory n h path d are_active is
    ∙ ap₂ (λ o p. unwrap_or (option_or o p) false)
    (active-says h.first.items path d first is_first)
    (ap₂ option_or (active-says h.files.items path d files is_files) (outer-says h.last.items path d last is_last))

-- The rules that are held decide about a name in the last directory as the rules of the aim do.
pub held-decides : {A : Type 0} (a : Aim) (known : Text → Option Text) (s : Directories A) (directory : Key) (n path : Text) (d : Bool)
    → IsAt a known s (Some directory) → path ≡ join_with_byte slash (directory ++ n ∷ [])
    → held_rule s.held path d ≡ last_rule (asked a known (rule_names s) (directory ++ n ∷ [])) d
held-decides a known s directory n path d at is =
    let names = directory ++ n ∷ [] in
    let h = s.held in
    let text = join_with_byte slash names in
    let files = rule_names s in
    let xs = asked_below known files [] names in
    let outer = numbered (λ k l. record { origin = Last k; rules = l.1; path = join l.0 text }) 0 a.last in
    let first = numbered (λ k l. record { origin = First k; rules = l; path = text }) 0 a.first in
    let from_source : ℕ → Origin = λ k. File (source_at h k) in
    let sources : map (λ x. x.origin) xs ≡ map File (sources_of h) =
    origins-below known files [] names
    ∙ ap (map File) (sources_down-child (sources_in known files) [] directory n ∙ sym at.sources) in
    let seen : seen_by path h.active.files.items ≡ map asked_of xs =
    seen-lists path h.active.files.items
    ∙ ap (map (seen_at path)) (at.files ∙ sym (lists_above-child a directory n))
    ∙ seen-down known files a at.rules [] [] names path is in
    let by_first : option_map (counted First) (last_of (seen_by path h.active.first.items) d 0) ≡ last_rule first d =
    ap (λ ls. option_map (counted First) (last_of ls d 0))
    (seen-lists path h.active.first.items ∙ ap (map (seen_at path)) at.first ∙ seen-first path a.first
    ∙ ap (λ t. map (seen_whole t) a.first) is)
    ∙ sym (by-number First (λ l. l) (λ l. text) d 0 a.first) in
    let by_files : option_map (counted from_source) (last_of (seen_by path h.active.files.items) d 0) ≡ last_rule xs d =
    ap (λ ls. option_map (counted from_source) (last_of ls d 0)) seen
    ∙ sym (by-origin from_source xs 0 d (λ k e lt.
    let within : k < length (sources_of h) =
    omega (arith, lt, length-map xs (λ x. x.origin), ap length sources, length-map (sources_of h) File) in
    sym (get_or-map (λ x. x.origin) xs k e e.origin lt) ∙ ap (λ os. get_or os k e.origin) sources
    ∙ get_or-map File (sources_of h) k [] e.origin within
    ∙ ap from_source (let here : k ≡ 0 + k = omega arith in here))) in
    let by_outer : option_map (counted Last) (last_of (seen_by_outer path h.active.last.items) d 0) ≡ last_rule outer d =
    ap (λ ls. option_map (counted Last) (last_of ls d 0))
    (seen-outer path h.active.last.items ∙ ap (map (seen_above path)) at.outer ∙ ap (λ t. map (seen_above t) a.last) is)
    ∙ sym (by-number Last (λ l. l.1) (λ l. join l.0 text) d 0 a.last) in
    ap₂ option_or by_first (ap₂ option_or by_files by_outer)
    ∙ or_assoc (last_rule first d) (last_rule xs d) (last_rule outer d)
    ∙ sym (ap (λ o. option_or o (last_rule outer d)) (last_rule-append xs first d))
    ∙ sym (last_rule-append outer (xs ++ first) d)

module _ (a : Aim) (known : Text → Option Text) (files : List Text) where
  -- below what is kept nothing is decided on the way
  rule-further : (directory names : Key) (n : Text) (more : Key) (d : Bool) → is_kept a directory names true ≡ true
      → rule_below a known files directory (names ++ n ∷ more) d ≡ rule_below a known files (directory ++ names) (n ∷ more) d
  rule-further directory [] n more d kept = ap (λ k. rule_below a known files k (n ∷ more) d) (sym (append-nil directory))
  rule-further directory (m ∷ ms) n more d kept =
      let next = directory ++ m ∷ [] in
      let (here, later) = and_parts (not (is_ignored a next true)) (is_kept a next ms true) kept in
      cond-false (is_nil (ms ++ n ∷ more) || is_ignored a next true) _ _
      (ap (λ b. b || is_ignored a next true) (long ms n more) ∙ not-true (is_ignored a next true) here)
      ∙ rule-further next ms n more d later
      ∙ ap (λ k. rule_below a known files k (n ∷ more) d) (append_assoc directory (m ∷ []) ms)

  module _ (path : Text) (directory : Key) (n : Text) (more : Key) (d : Bool) (proper : AreProper (pieces path))
      (whole : pieces path ≡ directory ++ n ∷ more) (kept : is_kept a [] directory true ≡ true) where
    rule-at : rule_about a known files path d ≡ rule_below a known files directory (n ∷ more) d
    rule-at =
        cond-true (list_all is_proper (pieces path)) _ _ proper
        ∙ ap (λ names. rule_below a known files [] names d) whole
        ∙ rule-further [] directory n more d kept

    pub rule-last : more ≡ [] → rule_about a known files path d ≡ last_rule (asked a known files (directory ++ n ∷ [])) d
    rule-last last =
        rule-at
        ∙ ap (λ ns. rule_below a known files directory (n ∷ ns) d) last
        ∙ ap (last_rule (asked a known files (directory ++ n ∷ []))) (or-false d)

    pub rule-above : is_nil more ≡ false → is_ignored a (directory ++ n ∷ []) true ≡ true
        → rule_about a known files path d ≡ last_rule (asked a known files (directory ++ n ∷ [])) true
    rule-above some ignored =
        rule-at
        ∙ cond-true (is_nil more || is_ignored a (directory ++ n ∷ []) true) _ _
        (or_right (is_nil more) (is_ignored a (directory ++ n ∷ []) true) ignored)
        ∙ ap (last_rule (asked a known files (directory ++ n ∷ []))) (ap (λ b. d || not b) some ∙ or_right d true refl)

-- what decides is in the lists that come first, in files, or in the others
pub held-by-first : {A : Type 0} (h : HeldRules A) (path : Text) (d : Bool) (p : ℕ × Rule)
    → Some p ≡ last_of (seen_by path h.active.first.items) d 0
    → Some (First p.0, p.1) ≡ held_rule h path d
held-by-first h path d p is =
    ap (λ o. option_or (option_map (counted First) o) (option_or
    (option_map (counted (λ k. File (source_at h k))) (last_of (seen_by path h.active.files.items) d 0))
    (option_map (counted Last) (last_of (seen_by_outer path h.active.last.items) d 0)))) is

pub held-by-file : {A : Type 0} (h : HeldRules A) (path : Text) (d : Bool) (p : ℕ × Rule)
    → None ≡ last_of (seen_by path h.active.first.items) d 0
    → Some p ≡ last_of (seen_by path h.active.files.items) d 0 → Some (File (source_at h p.0), p.1) ≡ held_rule h path d
held-by-file h path d p none is =
    ap₂ (λ o q. option_or (option_map (counted First) o) (option_or
    (option_map (counted (λ k. File (source_at h k))) q)
    (option_map (counted Last) (last_of (seen_by_outer path h.active.last.items) d 0)))) none is

pub held-by-last : {A : Type 0} (h : HeldRules A) (path : Text) (d : Bool) (o : Option (ℕ × Rule))
    → None ≡ last_of (seen_by path h.active.first.items) d 0
    → None ≡ last_of (seen_by path h.active.files.items) d 0 → o ≡ last_of (seen_by_outer path h.active.last.items) d 0
    → option_map (counted Last) o ≡ held_rule h path d
held-by-last h path d o none no_file is =
    ap₂ option_or (ap (option_map (counted First)) none)
    (ap₂ option_or (ap (option_map (counted (λ k. File (source_at h k)))) no_file) (ap (option_map (counted Last)) is))

pub length-seen : {A : Type 0} (path : Text) (files : List (FileRules A)) → length (seen_by path files) ≡ length files
length-seen {A} path files = length-map {B = Ignores × Text} files (λ (f : FileRules A). (f.list, drop f.above path))

-- a list sees a path after as many bytes as are above it, where no character goes on there
cut-seen : {A : Type 0} (path : Text) (files : List (FileRules A)) → All (λ l. IsCharBoundary path l.0) (active_lists files)
    → cut_by path files ≡ seen_by path files
cut-seen path [] cuts = refl
cut-seen path (f ∷ fs) cuts =
    ap₂ (λ t ls. (f.list, t) ∷ ls)
    (after_bytes-boundary path f.above (All-head (λ l. IsCharBoundary path l.0) (f.above, f.list) (active_lists fs) cuts))
    (cut-seen path fs (All-tail (λ l. IsCharBoundary path l.0) (f.above, f.list) (active_lists fs) cuts))

-- what a slice of these lists names
pub of-slice : {A : Type 0} (slice files : List (FileRules A)) (path : Text) (d : Bool) (answer : Option (ℕ × Rule)) → slice ≡ files
    → answer ≡ last_of (cut_by path slice) d 0 → All (λ l. IsCharBoundary path l.0) (active_lists files)
    → answer ≡ last_of (seen_by path files) d 0
of-slice slice files path d answer same says cuts =
    says ∙ ap (λ fs. last_of (cut_by path fs) d 0) same ∙ ap (λ ls. last_of ls d 0) (cut-seen path files cuts)

seen-cut : {A : Type 0} (path : Text) (files : List (FileRules A))
    → cut_by path files ≡ map (λ l. (l.1, after_bytes l.0 path)) (active_lists files)
seen-cut path [] = refl
seen-cut path (f ∷ fs) = ap (λ ls. (f.list, after_bytes f.above path) ∷ ls) (seen-cut path fs)

cut-says : {A : Type 0} (slice files : List (FileRules A)) (path : Text) (d : Bool) (answer : Option (ℕ × Rule)) → slice ≡ files
    → answer ≡ last_of (cut_by path slice) d 0 → said_after (active_lists files) path d ≡ option_map ignores_by answer
cut-says slice files path d answer same is =
    says-last (λ l. l.1) (λ l. after_bytes l.0 path) d 0 (active_lists files)
    ∙ ap (λ ls. option_map ignores_by (last_of ls d 0)) (sym (seen-cut path files))
    ∙ ap (λ fs. option_map ignores_by (last_of (cut_by path fs) d 0)) (sym same)
    ∙ ap (option_map ignores_by) (sym is)

-- The rules that are active decide about any path by what these lists name.
pub read-by : {A : Type 0} (h : ActiveRules A) (path : Text) (d : Bool) (first_slice files_slice : List (FileRules A))
    (first files last : Option (ℕ × Rule))
    → first_slice ≡ h.first.items → first ≡ last_of (cut_by path first_slice) d 0
    → files_slice ≡ h.files.items → files ≡ last_of (cut_by path files_slice) d 0
    → last ≡ last_of (seen_by_outer path h.last.items) d 0
    → is_ignored_by (rules_here h) path d
    ≡ unwrap_or (option_or (option_map ignores_by first) (option_or (option_map ignores_by files) (option_map ignores_by last))) false
read-by h path d first_slice files_slice first files last first_same is_first files_same is_files is_last =
    ap₂ (λ o p. unwrap_or (option_or o p) false)
    (cut-says first_slice h.first.items path d first first_same is_first)
    (ap₂ option_or (cut-says files_slice h.files.items path d files files_same is_files) (outer-says h.last.items path d last is_last))
