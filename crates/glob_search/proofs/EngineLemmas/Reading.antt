-- A file with rules is read.
use Rattle.std.proofs.Common.{◌≡◌, ◌≢◌, ℕ, zero, suc, ◌+◌, ◌-◌, ◌<◌, List, [], ◌∷◌, ◌++◌, get_or, length, map, take, Option}
use Rattle.std.proofs.Common.{Some, None, refl, ap, ap₂, sym, subst, ◌∙◌, arith}
use Rattle.std.specs.Prelude.{Contains, Vec, option_map, reverse, slice_get}
use Rattle.std.specs.List.{cons_option}
use Rattle.std.proofs.lemmas.List.{append_assoc, length-append, map-append, reverse-append, reverse-reverse}
use Rattle.std.proofs.lemmas.Option.{same_Some}
use Rattle.glob_text.specs.Text.{Text}
use Rattle.glob_rules.specs.Lists.{Ignores, refusals_of, rules_of}
use Rattle.glob_rules.specs.declared.error.RuleRefusal.{RuleRefusal}
use Rattle.glob_tree.specs.Content.{Content, Key}
use Rattle.glob_tree.specs.Paths.{child}
use Rattle.glob_search.specs.Aims.{AreRefused, path_of, rules_from}
use Rattle.glob_search.specs.Searching.{Aim}
use Rattle.glob_search.specs.Private.Engine.{IsReading, IsSound, Keeps, Reading, file_names, frame_names, lists_up_to}
use Rattle.glob_search.specs.Private.Active.{above_of, after, active_lists, lists_above}
use Rattle.glob_search.specs.Private.Ways.{search_left}
use Rattle.glob_search.specs.declared.active.FileRules.{FileRules}
use Rattle.glob_search.specs.declared.meter.Meter.{Meter}
use Rattle.glob_search.specs.declared.searcher.Searcher.{Searcher}
use Rattle.glob_search.proofs.EngineLemmas.Paths.{AreProper, path_of-child}
use Rattle.glob_search.proofs.EngineLemmas.Working.{get_or_within, rules-next}

-- the text of a file that was read
text-of : (o : Option Text) (list : Ignores) (refusals : List RuleRefusal) → Some list ≡ option_map rules_of o
    → Some refusals ≡ option_map refusals_of o → (text : Text) × (o ≡ Some text) × (refusals ≡ refusals_of text)
text-of None list refusals is are = absurd (cc)
text-of (Some text) list refusals is are = (text, refl, same_Some refusals (refusals_of text) are)

get-last : {X : Type 0} (zs : List X) (x : X) → slice_get (zs ++ x ∷ []) (length zs) ≡ Some x
get-last [] x = refl
get-last (z ∷ zs) x = get-last zs x

-- the last of a list is the first from its end
pub last-get : {X : Type 0} (xs ys : List X) (x y : X) → reverse xs ≡ x ∷ ys → Some y ≡ slice_get xs (length xs - 1) → y ≡ x
last-get xs ys x y is at =
    let whole : xs ≡ reverse ys ++ x ∷ [] = sym (reverse-reverse xs) ∙ ap reverse is ∙ reverse-append (x ∷ []) ys in
    let long : length xs - 1 ≡ length (reverse ys) = let l : length xs ≡ length (reverse ys) + 1 = ap length whole
    ∙ length-append (reverse ys) (x ∷ []) in omega arith in
    let same : Some y ≡ Some x = at ∙ ap₂ slice_get whole long ∙ get-last (reverse ys) x in
    cc

pub name-get : {X : Type 0} (f : X → Text) (xs : List X) (k : ℕ) (x : X) → slice_get xs k ≡ Some x → get_or (map f xs) k [] ≡ f x
name-get f [] k x h = absurd (none h)
  where
    none : None ≡ Some x → ⊥
    none h = cc
name-get f (y ∷ xs) zero x h = let same : y ≡ x = cc in ap f same
name-get f (y ∷ xs) (suc k) x h = name-get f xs k x h

module _ {A : Type 0} (c : Content) (a : Aim) (known : Text → Option Text) (s : Searcher A) (n : ℕ)
    (r : IsReading c a known s n) (now : r.last.files ≡ suc n)
    (within : n < length (file_names s)) (name : Text) (named : get_or (file_names s) n [] ≡ name) where
  abbrev names : Key
  names = frame_names r.last

  abbrev read : Option Text → List (ℕ × Ignores)
  read o = after (above_of names) (cons_option (option_map rules_of o) [])

  up_to-next : lists_up_to known a (file_names s) names (suc n) ≡ lists_up_to known a (file_names s) names n ++ read
      (known (path_of (names ++ name ∷ [])))
  up_to-next =
      let one : suc n ≡ n + 1 = omega arith in
      let rule : Text → List Ignores = λ f. cons_option (option_map rules_of (known (path_of (names ++ f ∷ [])))) [] in
      ap (λ k. lists_above a names ++ after (above_of names) (rules_from known (take k (file_names s)) names)) one
      ∙ ap (λ rs. lists_above a names ++ after (above_of names) rs) (rules-next known (file_names s) names n within)
      ∙ ap (λ ls. lists_above a names ++ ls) (map-append (λ l. (above_of names, l)) (rules_from known
      (take n (file_names s)) names) (rule (get_or (file_names s) n [])))
      ∙ sym (append_assoc (lists_above a names) (after (above_of names) (rules_from known (take n (file_names s))
      names)) (after (above_of names) (rule (get_or (file_names s) n []))))
      ∙ ap (λ f. lists_up_to known a (file_names s) names n ++ read (known (path_of (names ++ f ∷ [])))) named

  pub reads-keeps : (t : Searcher A) → t ≡ record s { meter = t.meter; active = record s.active { files = t.active.files } }
      → active_lists t.active.files.items ≡ active_lists s.active.files.items ++ read (known (path_of (names ++ name ∷ [])))
      → Keeps c a known (search_left c a s) t
  reads-keeps t same active =
      let moved = record s { meter = t.meter; active = record s.active { files = t.active.files } } in
      let reading : IsReading c a known moved (suc n) = record {
        for = record { beginnings = r.for.beginnings; depth = r.for.depth; wanted = r.for.wanted; first = r.for.first; last = r.for.last };
        free = r.free;
        last = r.last;
        above = r.above;
        frames = r.frames;
        frame = record { directory = r.frame.directory; below = r.frame.below; entries = r.frame.entries; active = r.frame.active };
        others = r.others;
        active = active ∙ ap (λ ls. ls ++ read (known (path_of (names ++ name ∷ [])))) r.active ∙ sym up_to-next;
        whole = r.whole;
      } in
      record {
        sound = subst (IsSound c a known) (sym same) (Reading (suc n) reading now);
        rest = ap (search_left c a) (sym same);
      }

  -- lines of it are refused
  pub refused-at : (t : Searcher A) → file_names t ≡ file_names s → (path : Text) → path ≡ path_of (names ++ name ∷ [])
      → (list : Ignores) (refusals : List RuleRefusal) → Some list ≡ option_map rules_of (known path)
      → Some refusals ≡ option_map refusals_of (known path) → refusals ≢ [] → AreRefused known (file_names t) path refusals
  refused-at t same path at list refusals is are some =
      let (text, held, all) = text-of (known path) list refusals is are in
      record {
        directory = names;
        file = name;
        named = subst (λ fs. Contains fs name) (sym same) (n, within, get_or_within (file_names s) n name [] within ∙ named);
        at = at;
        text = text;
        held = held;
        all = all;
        some = some;
      }

pub read-same : {A : Type 0} (s t : Searcher A) (m : Meter) (v : Vec (FileRules A) A) → t ≡ record s {
  meter = m;
  active
      = record s.active { files = v };
}
    → t ≡ record s { meter = t.meter; active = record s.active { files = t.active.files } }
read-same {A} s t m v is =
    let f : Meter → Vec (FileRules A) A → Searcher A = λ n u. record s { meter = n; active = record s.active { files = u } } in
    is ∙ ap₂ f (sym (ap (λ x. x.meter) is)) (sym (ap (λ x. x.active.files) is))

-- the path of a name in a directory
pub path-in : (names : Key) (n directory name path : Text) → AreProper names → directory ≡ path_of names → name ≡ n
    → path ≡ child directory name → path ≡ path_of (names ++ n ∷ [])
path-in names n directory name path proper at named is = is ∙ ap₂ child at named ∙ sym (path_of-child names n proper)
