-- Directories that are entered and left.
use Rattle.std.proofs.Common.{◌≡◌, ℕ, zero, suc, ◌+◌, true, List, [], ◌∷◌, ◌++◌, length, take, map, Option}
use Rattle.std.proofs.Common.{Some, None, refl, ap, ap₂, sym, subst, ◌∙◌, arith, ⊎_elim, ◌-◌}
use Rattle.std.specs.Prelude.{String, Vec, option_map, slice_get, string_bytes}
use Rattle.std.specs.List.{cons_option, join_with_byte}
use Rattle.std.proofs.lemmas.List.{append_assoc, append-nil, same_from_push, length-append, length-map, map-append, take-map, take_at}
use Rattle.std.proofs.lemmas.List.Sums.{fold-append}
use Rattle.std.proofs.lemmas.Option.{same_Some}
use Rattle.glob_pattern.proofs.Places.{at_last}
use Rattle.glob_text.specs.Characters.{slash}
use Rattle.glob_text.specs.Pieces.{pieces}
use Rattle.glob_text.specs.Text.{Text}
use Rattle.glob_tree.specs.Content.{Key}
use Rattle.glob_rules.specs.Lists.{Ignores, rules_of}
use Rattle.glob_search.specs.Searching.{Aim, is_kept}
use Rattle.glob_search.specs.Aims.{outer_of, path_of, rules_from}
use Rattle.glob_search.specs.Private.Active.{AreActive, above_of, active_lists, after, lists_above, lists_at, lists_down, lists_in}
use Rattle.glob_search.specs.Private.Entering.{AreRulesIn, IsAt, IsLeft, IsNext, below_text, entered_down, entered_of, entered_to}
use Rattle.glob_search.specs.Private.Entering.{entry_of, last_text}
use Rattle.glob_search.specs.Private.Entering.{lists_to, names_to, rule_names, sources_down, sources_to}
use Rattle.glob_search.specs.Private.Reading.{Adds, sources_in}
use Rattle.glob_search.specs.declared.directories.Directories.{Directories}
use Rattle.glob_search.specs.declared.directory.Directory.{Directory}
use Rattle.glob_search.proofs.ActiveLemmas.{active_lists-take, length-active_lists, lists_above-child}
use Rattle.glob_search.proofs.EngineLemmas.Paths.{AreProper, proper-parts}
use Rattle.glob_search.proofs.KeptLemmas.{kept-front}
use Rattle.glob_search.proofs.PieceLemmas.{pieces-below}

-- one directory more is entered
entered_down-child : (a : Aim) (directory names : Key) (n : Text) → entered_down a directory (names ++ n ∷ []) ≡
    entered_down a directory names ++ entry_of a (directory ++ (names ++ n ∷ [])) ∷ []
entered_down-child a directory [] n = refl
entered_down-child a directory (m ∷ ms) n =
    ap (λ es. entry_of a directory ∷ es) (entered_down-child a (directory ++ m ∷ []) ms n
    ∙ ap (λ k. entered_down a (directory ++ m ∷ []) ms ++ entry_of a k ∷ []) (append_assoc directory (m ∷ []) (ms ++ n ∷ [])))

pub entered-next : (a : Aim) (last : Option Key) (names : Key) → IsNext last names → entered_to a (Some names) ≡ entered_to
    a last ++ entry_of a names ∷ []
entered-next a None names is = ap (entered_down a []) is ∙ ap (λ k. entry_of a k ∷ []) (sym is)
entered-next a (Some directory) names (n, is) =
    ap (entered_down a []) is ∙ entered_down-child a [] directory n ∙ ap (λ k. entered_down a [] directory ++ entry_of a k ∷ []) (sym is)

-- before its files are read the lists are those of the last directory
pub above-next : (a : Aim) (last : Option Key) (names : Key) → IsNext last names → lists_above a names ≡ lists_to a last
above-next a None names is = ap (lists_above a) is
above-next a (Some directory) names (n, is) = ap (lists_above a) is ∙ lists_above-child a directory n

pub lists-next : (a : Aim) (last : Option Key) (names : Key) → IsNext last names → lists_at a names ≡ lists_to a last ++ lists_in a names
lists-next a last names next = ap (λ ls. ls ++ lists_in a names) (above-next a last names next)

-- the directory that is the last after the last one is left
pub record IsUp (last : Option Key) : Type 0 where
  pub up : Option Key
  pub names : Key
  pub is : last ≡ Some names
  pub next : IsNext up names

pub going-up : (a : Aim) (last : Option Key) (es : List (Text × ℕ)) (e : Text × ℕ) → entered_to a last ≡ es ++ e ∷ [] → IsUp last
going-up a None es e is = absurd (nothing es is)
  where
    nothing : (fs : List (Text × ℕ)) → [] ≡ fs ++ e ∷ [] → ⊥
    nothing fs h = omega (arith, ap length h, length-append fs (e ∷ []))
going-up a (Some names) es e is = ⊎_elim
    (λ none. record { up = None; names = names; is = refl; next = none })
    (λ (front, n, whole). record { up = Some front; names = names; is = refl; next = (n, whole) })
    (at_last names)

-- what is proper, and kept, is so further up
pub up-proper : (up : Option Key) (names : Key) → IsNext up names → AreProper names → AreProper (names_to up)
up-proper None names next h = refl
up-proper (Some front) names (n, is) h = (proper-parts front (n ∷ []) (subst AreProper is h)).0

pub up-kept : (a : Aim) (up : Option Key) (names : Key) → IsNext up names → is_kept a [] names true ≡ true → is_kept a []
    (names_to up) true ≡ true
up-kept a None names next h = refl
up-kept a (Some front) names (n, is) h = kept-front a [] front n (subst (λ ns. is_kept a [] ns true ≡ true) is h)

-- nothing is entered
pub nothing-entered : (a : Aim) (last : Option Key) → entered_to a last ≡ [] → last ≡ None
nothing-entered a None none = refl
nothing-entered a (Some []) none = absurd (omega (arith, ap length none))
nothing-entered a (Some (n ∷ ns)) none = absurd (omega (arith, ap length none))

-- something is entered
pub some-entered : (a : Aim) (last : Option Key) → (entered_to a last ≡ [] → ⊥) → last ≡ Some (names_to last)
some-entered a None some = absurd (some refl)
some-entered a (Some names) some = refl

-- the sources of one directory more
pub sources_down-child : (in' : Key → List Text) (directory names : Key) (n : Text) → sources_down in' directory (names ++ n ∷ []) ≡
    sources_down in' directory names ++ in' (directory ++ names)
sources_down-child in' directory [] n = append-nil (in' directory) ∙ ap in' (sym (append-nil directory))
sources_down-child in' directory (m ∷ ms) n =
    ap (λ ss. in' directory ++ ss) (sources_down-child in' (directory ++ m ∷ []) ms n)
    ∙ sym (append_assoc (in' directory) (sources_down in' (directory ++ m ∷ []) ms) (in' ((directory ++ m ∷ []) ++ ms)))
    ∙ ap (λ k. (in' directory ++ sources_down in' (directory ++ m ∷ []) ms) ++ in' k) (append_assoc directory (m ∷ []) ms)

pub sources-next : (in' : Key → List Text) (last : Option Key) (names : Key) → IsNext last names
    → sources_down in' [] names ≡ sources_to in' last
sources-next in' None names is = ap (sources_down in' []) is
sources-next in' (Some directory) names (n, is) = ap (sources_down in' []) is ∙ sources_down-child in' [] directory n

-- there is a source for each list
pub many-in : (known : Text → Option Text) (files : List Text) (directory : Key) → length (rules_from known files directory) ≡ length
    (sources_in known files directory)
many-in known [] directory = refl
many-in known (f ∷ fs) directory = by_text (many-in known fs directory) (known (path_of (directory ++ f ∷ [])))
  where
    by_text : length (rules_from known fs directory) ≡ length (sources_in known fs directory) → (o : Option Text)
        → length (cons_option (option_map rules_of o) (rules_from known fs directory))
        ≡ length (cons_option (option_map (λ (text : Text). path_of (directory ++ f ∷ [])) o) (sources_in known fs directory))
    by_text later None = later
    by_text later (Some text) = ap suc later

module _ (a : Aim) (in' : Key → List Text) (each : (d : Key) → length (in' d) ≡ length (lists_in a d)) where
  many-down : (lists : List (ℕ × Ignores)) (directory names : Key) → length (lists_down lists a directory names)
      ≡ length lists + length (sources_down in' directory names)
  many-down lists directory [] = omega arith
  many-down lists directory (n ∷ ns) = omega (
    arith,
    many-down (lists ++ lists_in a directory) (directory ++ n ∷ []) ns,
    length-append lists (lists_in a directory),
    length-append (in' directory) (sources_down in' (directory ++ n ∷ []) ns),
    each directory,
  )

  pub same-many : (last : Option Key) → length (sources_to in' last) ≡ length (lists_to a last)
  same-many None = refl
  same-many (Some names) = omega (
    arith,
    many-down [] [] names,
    length-append (sources_down in' [] names) (in' names),
    length-append (lists_above a names) (lists_in a names),
    each names,
  )

-- the same files are asked
pub same-rules : {A : Type 0} (a : Aim) (known : Text → Option Text) (s t : Directories A) → t.rule_files ≡ s.rule_files
    → AreRulesIn a known s → AreRulesIn a known t
same-rules {A} a known s t same rules = λ directory.
    rules directory ∙ ap (λ (v : Vec (String A) A). rules_from known (map (λ f. string_bytes f) v.items) directory) (sym same)

-- A directory is entered: its files were read, and it is the last.
pub enters : {A : Type 0} (a : Aim) (known : Text → Option Text) (s t : Directories A) (last : Option Key)
    (names : Key) (e : Directory A)
    → IsAt a known s last → IsNext last names → AreProper names → is_kept a [] names true ≡ true → t.rule_files ≡ s.rule_files
    → t.held.active.first ≡ s.held.active.first → t.held.active.last ≡ s.held.active.last
    → Adds known (rule_names s) names s.held t.held
    → t.entered.items ≡ s.entered.items ++ e ∷ [] → string_bytes e.path ≡ join_with_byte slash names
    → e.above ≡ length s.held.active.files.items
    → IsAt a known t (Some names)
enters {A} a known s t last names e at next proper kept asked first outer read push path above =
    let many : length s.held.active.files.items ≡ length (lists_above a names) =
    sym (length-active_lists s.held.active.files.items) ∙ ap length (at.files ∙ sym (above-next a last names next)) in
    record {
      first = ap (λ v. active_lists v.items) first ∙ at.first;
      outer = ap (λ v. outer_of v.items) outer ∙ at.outer;
      files = read.lists ∙ ap₂ (λ ls rs. ls ++ after (above_of names) rs) at.files (sym (at.rules names))
          ∙ sym (lists-next a last names next);
      rules = same-rules a known s t asked at.rules;
      sources = read.sources ∙ ap (λ ls. ls ++ sources_in known (rule_names s) names)
          (at.sources ∙ sym (sources-next (sources_in known (rule_names s)) last names next))
          ∙ ap (λ (v : Vec (String A) A). sources_to (sources_in known (map (λ f. string_bytes f) v.items)) (Some names)) (sym asked);
      entered = ap entered_of push ∙ map-append (λ (d : Directory A). (string_bytes d.path, d.above)) s.entered.items (e ∷ [])
          ∙ ap₂ (λ es p. es ++ p ∷ []) at.entered (ap₂ (λ p n. (p, n)) path (above ∙ many))
          ∙ sym (entered-next a last names next);
      proper = proper;
      kept = kept;
    }

-- the last directory of some that are entered
pub record IsLast {A : Type 0} (a : Aim) (last : Option Key) (front : List (Directory A)) (e : Directory A) : Type 0 where
  pub up : Option Key
  pub names : Key
  pub is : last ≡ Some names
  pub next : IsNext up names
  pub front_is : entered_of front ≡ entered_to a up
  pub path : string_bytes e.path ≡ join_with_byte slash names
  pub above : e.above ≡ length (lists_above a names)

pub last-entered : {A : Type 0} (a : Aim) (last : Option Key) (front : List (Directory A)) (e : Directory A)
    → entered_of (front ++ e ∷ []) ≡ entered_to a last → IsLast a last front e
last-entered {A} a last front e is =
    let show : Directory A → Text × ℕ = λ d. (string_bytes d.path, d.above) in
    let parts : entered_of front ++ show e ∷ [] ≡ entered_to a last = sym (map-append show front (e ∷ [])) ∙ is in
    let u = going-up a last (entered_of front) (show e) (sym parts) in
    let same = same_from_push (entered_of front) (entered_to a u.up) (show e) (entry_of a u.names)
    (parts ∙ ap (entered_to a) u.is ∙ entered-next a u.up u.names u.next) in
    record {
      up = u.up;
      names = u.names;
      is = u.is;
      next = u.next;
      front_is = same.0;
      path = ap (λ p. p.0) same.1;
      above = ap (λ p. p.1) same.1;
    }

-- The last directory is left.
pub leaves : {A : Type 0} (a : Aim) (known : Text → Option Text) (s t : Directories A) (last : Option Key) (front : List (Directory A))
    (e : Directory A)
    → IsAt a known s last → s.entered.items ≡ front ++ e ∷ [] → t.entered.items ≡ front → t.rule_files ≡ s.rule_files
    → t.held.active.first ≡ s.held.active.first → t.held.active.last ≡ s.held.active.last
    → t.held.active.files.items ≡ take e.above s.held.active.files.items
    → t.held.sources.items ≡ take e.above s.held.sources.items
    → (up : Option Key) × IsAt a known t up
leaves {A} a known s t last front e at whole rest asked first outer files sources =
    let l = last-entered a last front e (ap entered_of (sym whole) ∙ at.entered) in
    let f = sources_in known (rule_names s) in
    let many : length (lists_above a l.names) ≡ length (sources_to f l.up) =
    ap length (above-next a l.up l.names l.next) ∙ sym (same-many a f (λ d. sym (length-map (a.rules_in d) (λ r. (above_of d, r))
    ∙ ap length (at.rules d) ∙ many-in known (rule_names s) d)) l.up) in (
      l.up,
      record {
        first = ap (λ v. active_lists v.items) first ∙ at.first;
        outer = ap (λ v. outer_of v.items) outer ∙ at.outer;
        files = ap active_lists files ∙ active_lists-take s.held.active.files.items (lists_to a l.up) (lists_in a l.names) e.above
            (at.files ∙ ap (lists_to a) l.is ∙ lists-next a l.up l.names l.next)
            (l.above ∙ ap length (above-next a l.up l.names l.next));
        rules = same-rules a known s t asked at.rules;
        sources = ap (map (λ (p : String A). string_bytes p)) sources
            ∙ sym (take-map (λ (p : String A). string_bytes p) e.above s.held.sources.items)
            ∙ ap (take e.above) (at.sources ∙ ap (sources_to f) l.is ∙ ap (λ ls. ls ++ f l.names) (sources-next f l.up l.names l.next))
            ∙ take_at (sources_to f l.up) (f l.names) e.above (sym (l.above ∙ many))
            ∙ ap (λ (v : Vec (String A) A). sources_to (sources_in known (map (λ x. string_bytes x) v.items)) l.up) (sym asked);
        entered = ap entered_of rest ∙ l.front_is;
        proper = up-proper l.up l.names l.next (subst (λ o. AreProper (names_to o)) l.is at.proper);
        kept = up-kept a l.up l.names l.next (subst (λ o. is_kept a [] (names_to o) true ≡ true) l.is at.kept);
      },
    )

-- A path leads on below the last directory.
pub stays-in : {A : Type 0} (a : Aim) (known : Text → Option Text) (s : Directories A) (last : Option Key) (front : List (Directory A))
    (e : Directory A)
    (path rest : Text) → IsAt a known s last → s.entered.items ≡ front ++ e ∷ [] → path ≡ below_text (string_bytes e.path) rest
    → IsLeft a known path rest s
stays-in a known s last front e path rest at whole below =
    let l = last-entered a last front e (ap entered_of (sym whole) ∙ at.entered) in
    record {
      last = last;
      at = at;
      whole = pieces-below l.names (string_bytes e.path) rest path (subst (λ o. AreProper (names_to o)) l.is at.proper) l.path below
          ∙ ap (λ o. names_to o ++ pieces rest) (sym l.is);
    }

-- Nothing is entered any more.
pub left-all : {A : Type 0} (a : Aim) (known : Text → Option Text) (s t : Directories A) (last : Option Key) → IsAt a known s last
    → t.entered.items ≡ [] → t.rule_files ≡ s.rule_files → t.held.active.first ≡ s.held.active.first
    → t.held.active.last ≡ s.held.active.last → t.held.active.files.items ≡ []
    → t.held.sources.items ≡ [] → IsAt a known t None
left-all {A} a known s t last at none asked first outer files sources = record {
  rules = same-rules a known s t asked at.rules;
  sources = ap (map (λ (p : String A). string_bytes p)) sources;
  first = ap (λ v. active_lists v.items) first ∙ at.first;
  outer = ap (λ v. outer_of v.items) outer ∙ at.outer;
  files = ap active_lists files;
  entered = ap entered_of none;
  proper = refl;
  kept = refl;
}

pub active-at : {A : Type 0} (a : Aim) (known : Text → Option Text) (s : Directories A) (directory : Key)
    → IsAt a known s (Some directory)
    → AreActive a directory s.held.active
active-at a known s directory at = record { first = at.first; files = at.files; last = at.outer }

-- the path of the last directory
pub last_text-push : {A : Type 0} (front : List (Directory A)) (e : Directory A) → last_text (front ++ e ∷ []) ≡ string_bytes e.path
last_text-push [] e = refl
last_text-push {A} (d ∷ ds) e = fold-append (λ before (x : Directory A). string_bytes x.path) [] (d ∷ ds) (e ∷ [])

pub last-path : {A : Type 0} (a : Aim) (known : Text → Option Text) (s : Directories A) (directory : Key)
    → IsAt a known s (Some directory)
    → last_text s.entered.items ≡ join_with_byte slash directory
last-path a known s directory at = ⊎_elim
    (λ none. absurd (some directory (sym at.entered ∙ ap entered_of none)))
    (λ (front, e, whole).
    let l = last-entered a (Some directory) front e (ap entered_of (sym whole) ∙ at.entered) in
    ap last_text whole ∙ last_text-push front e ∙ l.path ∙ ap (λ o. join_with_byte slash (names_to o)) (sym l.is))
    (at_last s.entered.items)
  where
    some : (names : Key) → entered_to a (Some names) ≡ [] → ⊥
    some [] none = omega (arith, ap length none)
    some (n ∷ ns) none = omega (arith, ap length none)

-- the last of a list is cut off
pub cut-last : {X : Type 0} (xs : List X) (y : X) → Some y ≡ slice_get xs (length xs - 1) → (front : List X) × (xs ≡ front ++ y ∷ [])
cut-last {X} xs y is = ⊎_elim
    (λ none. absurd (nothing (is ∙ ap (λ zs. slice_get zs (length zs - 1)) none)))
    (λ (front, x, whole).
    let long : length xs - 1 ≡ length front = omega (arith, ap length whole, length-append front (x ∷ [])) in
    let same : Some y ≡ Some x = is ∙ ap₂ slice_get whole long ∙ there front x in
    (front, whole ∙ ap (λ z. front ++ z ∷ []) (sym (same_Some y x same))))
    (at_last xs)
  where
    nothing : Some y ≡ None → ⊥
    nothing e = cc

    there : (zs : List X) (x : X) → slice_get (zs ++ x ∷ []) (length zs) ≡ Some x
    there [] x = refl
    there (z ∷ zs) x = there zs x

pub no-directories : {A : Type 0} (ds : List (Directory A)) → entered_of ds ≡ [] → ds ≡ []
no-directories [] none = refl
no-directories (d ∷ ds) none = absurd (omega (arith, ap length none))

pub no-last : {X : Type 0} (xs : List X) → None ≡ slice_get xs (length xs - 1) → xs ≡ []
no-last [] is = refl
no-last {X = X} (x ∷ xs) is = absurd
    (some xs x (length xs) (omega arith) (is ∙ ap (slice_get (x ∷ xs)) (let e : length (x ∷ xs) - 1 ≡ length xs = omega arith in e)))
  where
    some : (zs : List X) (z : X) (n : ℕ) → n ≡ length zs → None ≡ slice_get (z ∷ zs) n → ⊥
    some [] z zero long e = cc
    some [] z (suc n) long e = omega (arith, long)
    some (y ∷ ys) z zero long e = omega (arith, long)
    some (y ∷ ys) z (suc n) long e = some ys y n (omega (arith, long)) e

-- there is a source for each list that is held
pub paired-at : {A : Type 0} (a : Aim) (known : Text → Option Text) (s : Directories A) (last : Option Key) → IsAt a known s last
    → length s.held.sources.items ≡ length s.held.active.files.items
paired-at {A} a known s last at =
    let f = sources_in known (rule_names s) in
    sym (length-map s.held.sources.items (λ (p : String A). string_bytes p))
    ∙ ap length at.sources
    ∙ same-many a f (λ d. sym (length-map (a.rules_in d) (λ r. (above_of d, r)) ∙ ap length (at.rules d)
    ∙ many-in known (rule_names s) d)) last
    ∙ sym (ap length at.files)
    ∙ length-active_lists s.held.active.files.items
