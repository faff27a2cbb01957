-- A search whose gifts are written as they come.
use Rattle.std.proofs.Common.{◌≡◌, ◌≢◌, ℕ, true, false, Option, None, Some, List, [], ◌∷◌, ◌++◌, Bool, ◌==◌, Result, Ok}
use Rattle.std.proofs.Common.{Err, inl, inr, refl, ap, sym, eq-eqb}
use Rattle.std.proofs.Common.{subst, ◌∙◌, append-nil, string_bytes, cond}
use Rattle.std.specs.Io.KnownBytes.{Appends}
use Rattle.std.specs.declared.io.ErrorKind.{ErrorKind}
use Rattle.std.proofs.KnownBytes.{Appends-nil}
use Rattle.std.proofs.lemmas.Bool.{cases_Bool, eqb-true, false≢true}
use Rattle.glob_console.specs.FoundPaths.{has_any}
use Rattle.glob_console.specs.Private.Writing.{Queues}
use Rattle.glob_console.proofs.ItemLemmas.{has_any-push, records_push}
use Rattle.glob_console.proofs.WritingLemmas.{AppendsFront-front, Queues-all, Queues-more, Queues-some, Queues-trans}
use Rattle.glob_lines.specs.Lines.{AppendsFront, ended_record, with_ends}
use Rattle.std.proofs.lemmas.List.Concat.{flat_map-append}
use Rattle.std.proofs.lemmas.List.Elements.{filter-append}
use Rattle.glob_search.specs.Aims.{AreTextsOf, path_of}
use Rattle.glob_search.specs.Searching.{Aim}
use Rattle.glob_search.specs.States.{GivesNext, HasGiven, Progress, SearchState}
use Rattle.glob_search.specs.Visiting.{Gift, Found, Unread}
use Rattle.glob_search.specs.declared.fault.SearchFault.{SearchFault}
use Rattle.glob_search.specs.declared.fault.SearchFault.TheVariants as fault
use Rattle.glob_search.specs.declared.found.Found.{Found as FoundPath}
use Rattle.glob_text.specs.Text.{Text}
use Rattle.glob_tree.specs.Answers.{IsTold}
use Rattle.glob_tree.specs.Content.{Content, Key}
use Rattle.globs.specs.Find.Kinds.{keeps_gift, kept}
use Rattle.globs.specs.Find.Writing.{WritesGifts, found_paths, has_unread, is_last, item_record, noting, search_status, status_of}
use Rattle.globs.specs.declared.find.searching.Findings.{Findings}

found_paths-append : (lead : Text) (gs hs : List Gift) → found_paths lead (gs ++ hs) ≡ found_paths lead gs ++ found_paths lead hs
found_paths-append lead [] hs = refl
found_paths-append lead (Found n ∷ gs) hs = ap (λ ps. (lead ++ path_of n) ∷ ps) (found_paths-append lead gs hs)
found_paths-append lead (Unread n k ∷ gs) hs = found_paths-append lead gs hs

-- whether there is a path does not depend on the lead
any_led : (lead : Text) (gs : List Gift) → has_any (found_paths lead gs) ≡ has_any (found_paths [] gs)
any_led lead [] = refl
any_led lead (Found n ∷ gs) = refl
any_led lead (Unread n k ∷ gs) = any_led lead gs

has_unread-found : (gs : List Gift) (n : Key) → has_unread (gs ++ Found n ∷ []) ≡ has_unread gs
has_unread-found [] n = refl
has_unread-found (Found m ∷ gs) n = has_unread-found gs n
has_unread-found (Unread m k ∷ gs) n = refl

-- one more path that is kept, or is not, and one more directory that cannot be listed
module _ (keeps : Text → Bool) (gs : List Gift) where
  kept-push : (n : Key) → keeps (path_of n) ≡ true → kept keeps (gs ++ Found n ∷ []) ≡ kept keeps gs ++ Found n ∷ []
  kept-push n is =
      filter-append (keeps_gift keeps) gs (Found n ∷ []) ∙ ap (λ b. kept keeps gs ++ cond b (Found n ∷ []) []) is

  kept-skip : (n : Key) → keeps (path_of n) ≡ false → kept keeps (gs ++ Found n ∷ []) ≡ kept keeps gs
  kept-skip n is =
      filter-append (keeps_gift keeps) gs (Found n ∷ []) ∙ ap (λ b. kept keeps gs ++ cond b (Found n ∷ []) []) is
      ∙ append-nil (kept keeps gs)

  kept-unread : (n : Key) (k : ErrorKind) → kept keeps (gs ++ Unread n k ∷ []) ≡ kept keeps gs ++ Unread n k ∷ []
  kept-unread n k = filter-append (keeps_gift keeps) gs (Unread n k ∷ [])

unread-cond : (b : Bool) (n : Key) (gs : List Gift) (u : Bool) → has_unread gs ≡ u → has_unread (cond b (Found n ∷ gs) gs) ≡ u
unread-cond true n gs u is = is
unread-cond false n gs u is = is

has_unread-kept : (keeps : Text → Bool) (gs : List Gift) → has_unread (kept keeps gs) ≡ has_unread gs
has_unread-kept keeps [] = refl
has_unread-kept keeps (Found n ∷ gs) = unread-cond (keeps (path_of n)) n (kept keeps gs) (has_unread gs) (has_unread-kept keeps gs)
has_unread-kept keeps (Unread n k ∷ gs) = refl

-- the records of what is kept of the first gifts are a prefix of the records of all
records_begin : (end : ℕ) (keeps : Text → Bool) (lead : Text) (paths : List Text) (given more all : List Gift)
    → paths ≡ found_paths lead (kept keeps given) → all ≡ given ++ more
    → with_ends end (found_paths lead (kept keeps all)) ≡ with_ends end paths ++ with_ends end (found_paths lead (kept keeps more))
records_begin end keeps lead paths given more all are split =
    let rest : List Text = found_paths lead (kept keeps more) in
    ap (λ gs. with_ends end (found_paths lead (kept keeps gs))) split
    ∙ ap (λ gs. with_ends end (found_paths lead gs)) (filter-append (keeps_gift keeps) given more)
    ∙ ap (with_ends end) (found_paths-append lead (kept keeps given) (kept keeps more) ∙ ap (λ ps. ps ++ rest) (sym are))
    ∙ flat_map-append (ended_record end) paths rest

-- one more path
paths_push : (keeps : Text → Bool) (lead : Text) (paths : List Text) (given : List Gift) (path : Text) (names : Key)
    → paths ≡ found_paths lead (kept keeps given) → path ≡ path_of names → keeps path ≡ true
    → paths ++ (lead ++ path) ∷ [] ≡ found_paths lead (kept keeps (given ++ Found names ∷ []))
paths_push keeps lead paths given path names are is kept_is =
    ap (λ ps. ps ++ (lead ++ path) ∷ []) are ∙ ap (λ p. found_paths lead (kept keeps given) ++ (lead ++ p) ∷ []) is
    ∙ sym (found_paths-append lead (kept keeps given) (Found names ∷ []))
    ∙ ap (found_paths lead) (sym (kept-push keeps given names (subst (λ p. keeps p ≡ true) is kept_is)))

paths_skip : (keeps : Text → Bool) (lead : Text) (paths : List Text) (given : List Gift) (path : Text) (names : Key)
    → paths ≡ found_paths lead (kept keeps given) → path ≡ path_of names → keeps path ≡ false
    → paths ≡ found_paths lead (kept keeps (given ++ Found names ∷ []))
paths_skip keeps lead paths given path names are is kept_not =
    are ∙ ap (found_paths lead) (sym (kept-skip keeps given names (subst (λ p. keeps p ≡ false) is kept_not)))

paths_same : (keeps : Text → Bool) (lead : Text) (paths : List Text) (given : List Gift) (names : Key) (kind : ErrorKind)
    → paths ≡ found_paths lead (kept keeps given) → paths ≡ found_paths lead (kept keeps (given ++ Unread names kind ∷ []))
paths_same keeps lead paths given names kind are =
    are ∙ sym (append-nil (found_paths lead (kept keeps given)))
    ∙ sym (found_paths-append lead (kept keeps given) (Unread names kind ∷ []))
    ∙ ap (found_paths lead) (sym (kept-unread keeps given names kind))

-- the record of a path that is kept, or is not
module _ {A : Type 0} (keeps : Text → Bool) (lead : Text) (end : ℕ) (found : FoundPath A) where
  pub record-kept : keeps (string_bytes found.path) ≡ true → item_record keeps lead end (Ok found) ≡
      ended_record end (lead ++ string_bytes found.path)
  record-kept kept_is = ap (λ b. cond b (ended_record end (lead ++ string_bytes found.path)) []) kept_is

  pub record-skipped : keeps (string_bytes found.path) ≡ false → item_record keeps lead end (Ok found) ≡ []
  record-skipped kept_not = ap (λ b. cond b (ended_record end (lead ++ string_bytes found.path)) []) kept_not

  -- if it is not kept, nothing is written and nothing waits
  pub Queues-skipped : (held : Option (List ℕ)) (waiting : List ℕ) → keeps (string_bytes found.path) ≡ false
      → Queues held waiting held waiting (item_record keeps lead end (Ok found))
  Queues-skipped held waiting kept_not =
      subst (Queues held waiting held waiting) (sym (record-skipped kept_not)) ([], Appends-nil held, append-nil waiting)

-- what holds for a search from its beginning on, over a known content and known texts
abbrev pub Over : {P : Progress} {X Y : Type 0} → (X → Option Content) → (Y → Option (Text → Option Text)) → X → Y → SearchState P
    → (Content → Aim → (Text → Option Text) → List Gift → Type 0) → Type 0
Over tells texts of on first Q =
    (c : Content) (a : Aim) (known : Text → Option Text) → IsTold (tells of) c → texts on ≡ Some known
    → AreTextsOf c a first.files known → (all : List Gift) → HasGiven all c a known [] first → Q c a known all

-- These are the paths kept of the gifts so far; a directory that cannot be listed counts as a fault.
abbrev pub Goes : {P : Progress} → (keeps : Text → Bool) → (lead : Text) → (paths : List Text) → Findings → SearchState P → Content → Aim
    → (known : Text → Option Text) → List Gift → Type 0
Goes keeps lead paths findings search c a known all =
    (given : List Gift) × HasGiven all c a known given search × (paths ≡ found_paths lead (kept keeps given))
    × (has_unread given ≡ true → findings.has_fault ≡ true)

-- A search between two of its gifts. The paths before were written, or wait.
pub record Searched {P : Progress} {X Y : Type 0} (keeps : Text → Bool) (lead : Text) (end : ℕ) (tells : X → Option Content)
    (texts : Y → Option (Text → Option Text)) (of : X) (on : Y) (first : SearchState P) (old : Option (List ℕ)) (tree : X)
    (files : Y) (search : SearchState P) (findings : Findings) (held : Option (List ℕ)) (waiting : List ℕ) : Type 0 where
  pub paths : List Text
  pub same : tells tree ≡ tells of
  pub same_texts : texts files ≡ texts on
  pub names : search.files ≡ first.files
  pub queued : Queues old [] held waiting (with_ends end paths)
  pub path : findings.has_path ≡ has_any paths
  pub goes : Over tells texts of on first (Goes keeps lead paths findings search)

pub Searched-first : {P : Progress} {X Y : Type 0} (keeps : Text → Bool) (lead : Text) (end : ℕ) (tells : X → Option Content)
    (texts : Y → Option (Text → Option Text)) (of : X) (on : Y) (first : SearchState P) (old : Option (List ℕ)) (findings : Findings)
    → findings.has_path ≡ false → Searched keeps lead end tells texts of on first old of on first findings old []
Searched-first keeps lead end tells texts of on first old findings path = record {
  paths = [];
  same = refl;
  same_texts = refl;
  names = refl;
  queued = ([], Appends-nil old, refl);
  path = path;
  goes = λ c a known told is fit all begun. ([], begun, refl, λ never. absurd (false≢true never));
}

-- at status 2 the first records were written
pub WritesGifts-fault : (lead : Text) (end : ℕ) (all : List Gift) (old held : Option (List ℕ)) (status : ℕ) → status ≡ 2
    → AppendsFront old held (with_ends end (found_paths lead all)) → WritesGifts lead end all old held status
unfolding WritesGifts
WritesGifts-fault lead end all old held status is some = ((λ other. absurd (other is)), λ _. some)

-- all gifts were given
WritesGifts-all : (lead : Text) (end : ℕ) (all : List Gift) (old held : Option (List ℕ)) (status : ℕ) →
    (status ≢ 2 → status ≡ search_status all)
    → Appends old held (with_ends end (found_paths lead all)) → WritesGifts lead end all old held status
unfolding WritesGifts
WritesGifts-all lead end all old held status is wrote =
    ((λ other. (wrote, is other)), λ _. AppendsFront-front old held _ _ [] (sym (append-nil _)) wrote)

-- the first records were written whatever the status
pub WritesGifts-front : (lead : Text) (end : ℕ) (all : List Gift) (old held : Option (List ℕ)) (status : ℕ) →
    WritesGifts lead end all old held status
    → AppendsFront old held (with_ends end (found_paths lead all))
unfolding WritesGifts
WritesGifts-front lead end all old held status (other, two') = elim (cases_Bool (status == 2)) [
  | inl is ↦ two' (eqb-true status 2 is)
  | inr not ↦ AppendsFront-front old held _ _ [] (sym (append-nil _)) (other (λ is. absurd (false≢true (sym not ∙ eq-eqb status 2 is)))).0
]

-- the status of findings that have a fault
two : (findings : Findings) → findings.has_fault ≡ true → status_of findings ≡ 2
two findings is = rw is refl

-- the status of the findings of all gifts, if it is not 2
same_status : (findings : Findings) (all : List Gift) → findings.has_path ≡ has_any (found_paths [] all)
    → (has_unread all ≡ true → findings.has_fault ≡ true) → status_of findings ≢ 2 → status_of findings ≡ search_status all
same_status findings all path faults other = by_fault (findings.has_fault) refl (has_unread all) refl
  where
    by_fault : (b : Bool) → findings.has_fault ≡ b → (u : Bool) → has_unread all ≡ u → status_of findings ≡ search_status all
    by_fault true is u un = absurd (other (two findings is))
    by_fault false is true un = absurd (false≢true (sym is ∙ faults un))
    by_fault false is false un = rw (path, is, un) refl

-- what a search gives next
module _ {P : Progress} {X Y : Type 0} (keeps : Text → Bool) (lead : Text) (end : ℕ) (tells : X → Option Content)
    (texts : Y → Option (Text → Option Text)) (of : X)
    (on : Y) (first : SearchState P) (old : Option (List ℕ)) (tree : X) (files : Y) (search : SearchState P) (findings : Findings)
    (held : Option (List ℕ)) (waiting : List ℕ) (w : Searched keeps lead end tells texts of on first old tree files
    search findings held waiting) where
  -- some of the waiting bytes were written
  pub Searched-cut : (held' : Option (List ℕ)) → AppendsFront held held' waiting
      → Over tells texts of on first (λ c a known all. AppendsFront old held' (with_ends end (found_paths lead (kept keeps all))))
  Searched-cut held' some c a known told is fit all begun =
      let (given, has, are, _) = w.goes c a known told is fit all begun in
      Queues-some old held held' _ waiting (with_ends end w.paths) _
      (records_begin end keeps lead w.paths given _ all are has.upto) w.queued some

  module _ {A : Type 0} (tree' : X) (files' : Y) (search' : SearchState P) (next : Option (Result (FoundPath A) (SearchFault A)))
      (told' : tells tree' ≡ tells tree) (told_texts' : texts files' ≡ texts files) (names' : search'.files ≡ search.files)
      (gives : (c : Content) (a : Aim) (known : Text → Option Text) → IsTold (tells tree) c → texts files ≡ Some known
      → AreTextsOf c a search.files known → (all given : List Gift) → HasGiven all c a known given search
      → GivesNext all c a known given next search') where
    abbrev Gives : (next : Option (Result (FoundPath A) (SearchFault A))) → Content → Aim →
        (known : Text → Option Text) → List Gift → Type 0
    Gives it c a known all =
        (given : List Gift) × GivesNext all c a known given it search' × (w.paths ≡ found_paths lead (kept keeps given))
        × (has_unread given ≡ true → findings.has_fault ≡ true)

    gives_next : Over tells texts of on first (Gives next)
    gives_next c a known told is fit all begun =
        let (given, has, are, faults) = w.goes c a known told is fit all begun in (
          given,
          gives c a known (w.same ∙ told.0, told.1) (w.same_texts ∙ is)
              (subst (λ ns. AreTextsOf c a ns known) (sym w.names) fit) all given has,
          are,
          faults,
        )

    -- nothing is left, and all was written
    pub Searched-none : next ≡ None → (held' : Option (List ℕ)) (waiting' : List ℕ) → Queues held waiting held' waiting' [] → waiting' ≡ []
        → Over tells texts of on first (λ c a known all. WritesGifts lead end (kept keeps all) old held' (status_of findings))
    Searched-none none held' waiting' queued empty c a known told is fit all begun =
        let still : Queues old [] held' [] (with_ends end w.paths) =
        subst (λ l. Queues old [] held' l (with_ends end w.paths)) empty
        (subst (Queues old [] held' waiting') (append-nil (with_ends end w.paths))
        (Queues-trans old held held' [] waiting waiting' (with_ends end w.paths) [] w.queued queued)) in
        let (given, given_all, are, faults) = gives_next c a known told is fit all begun in
        let whole : all ≡ given = subst (λ n. GivesNext all c a known given n search') none given_all in
        let paths : w.paths ≡ found_paths lead (kept keeps all) = are ∙ ap (λ gs. found_paths lead (kept keeps gs)) (sym whole) in
        WritesGifts-all lead end (kept keeps all) old held' _
        (same_status findings (kept keeps all) (w.path ∙ ap has_any paths ∙ any_led lead (kept keeps all))
        (λ u. faults (ap has_unread (sym whole) ∙ sym (has_unread-kept keeps all) ∙ u)))
        (subst (λ ps. Appends old held' (with_ends end ps)) paths (Queues-all old held' _ still))

    module _ (item : Result (FoundPath A) (SearchFault A)) (is_item : next ≡ Some item) where
      gives_item : Over tells texts of on first (Gives (Some item))
      gives_item c a known told is fit all begun =
          subst (λ n. Gives n c a known all) is_item (gives_next c a known told is fit all begun)

      -- an item could not be written
      pub Searched-fault : (held' : Option (List ℕ)) → AppendsFront held held' (waiting ++ item_record keeps lead end item)
          → Over tells texts of on first (λ c a known all. AppendsFront old held' (with_ends end (found_paths lead (kept keeps all))))
      Searched-fault held' some c a known told is fit all begun =
          let (given, next, are, _) = gives_item c a known told is fit all begun in by_item item refl given next are
        where
          waits : item_record keeps lead end item ≡ [] → AppendsFront held held' waiting
          waits none = subst (AppendsFront held held') (ap (λ l. waiting ++ l) none ∙ append-nil waiting) some

          by_path : (found : FoundPath A) → Ok found ≡ item → (b : Bool) → keeps (string_bytes found.path) ≡ b → (given : List Gift)
              → GivesNext all c a known given (Some (Ok found)) search' → w.paths ≡ found_paths lead (kept keeps given)
              → AppendsFront old held' (with_ends end (found_paths lead (kept keeps all)))
          by_path found same false kept_not given next are =
              Searched-cut held' (waits (ap (item_record keeps lead end) (sym same) ∙
              ap (λ b. cond b (ended_record end (lead ++ string_bytes found.path)) []) kept_not))
              c a known told is fit all begun
          by_path found same true kept_is given next are =
              let path : Text = string_bytes found.path in
              let line : Text = lead ++ path in
              let rest : List Gift = P.left c a search'.state in
              let after : List ℕ = with_ends end (found_paths lead (kept keeps rest)) in
              let split : with_ends end (found_paths lead (kept keeps all)) ≡ with_ends end (w.paths ++ line ∷ []) ++ after =
              records_begin end keeps lead (w.paths ++ (lead ++ path) ∷ []) (given ++ Found next.names ∷ []) rest all
              (paths_push keeps lead w.paths given path next.names are next.path kept_is) next.goes.upto in
              let record_is : item_record keeps lead end item ≡ ended_record end line =
              ap (item_record keeps lead end) (sym same) ∙ ap (λ b. cond b (ended_record end line) []) kept_is in
              Queues-more old held held' _ waiting (with_ends end w.paths) (ended_record end line) after
              (split ∙ ap (λ l. l ++ after) (records_push end w.paths line)) w.queued
              (subst (λ r. AppendsFront held held' (waiting ++ r)) record_is some)

          by_item : (it : Result (FoundPath A) (SearchFault A)) → it ≡ item → (given : List Gift) →
              GivesNext all c a known given (Some it) search'
              → w.paths ≡ found_paths lead (kept keeps given) → AppendsFront old held' (with_ends end (found_paths lead (kept keeps all)))
          by_item (Ok found) same given next are = by_path found same (keeps (string_bytes found.path)) refl given next are
          by_item (Err e) same given next are =
              Searched-cut held' (waits (ap (item_record keeps lead end) (sym same))) c a known told is fit all begun

      -- the item was written, or waits
      module _ (held' : Option (List ℕ)) (waiting' : List ℕ) (queued : Queues held waiting held' waiting' (item_record keeps lead end item))
          (findings' : Findings) (noted : findings' ≡ noting keeps findings item) where
        -- it was the last
        pub Searched-last : is_last item ≡ true → waiting' ≡ []
            → Over tells texts of on first (λ c a known all. WritesGifts lead end (kept keeps all) old held' (status_of findings'))
        Searched-last last empty c a known told is fit all begun = by_item item refl last
          where
            by_item : (it : Result (FoundPath A) (SearchFault A)) → it ≡ item → is_last it ≡ true →
                WritesGifts lead end (kept keeps all) old held' (status_of findings')
            by_item (Ok found) same never = absurd (false≢true never)
            by_item (Err e) same ends =
                let faults : findings'.has_fault ≡ true = ap (λ f. f.has_fault) (noted ∙ ap (noting keeps findings) (sym same)) in
                let still : Queues held waiting held' [] [] =
                subst (λ l. Queues held waiting held' l []) empty
                (subst (λ i. Queues held waiting held' waiting' (item_record keeps lead end i)) (sym same) queued) in
                let all_wait : AppendsFront held held' waiting =
                AppendsFront-front held held' waiting waiting [] (sym (append-nil waiting)) (written still) in
                WritesGifts-fault lead end (kept keeps all) old held' _ (two findings' faults)
                (Searched-cut held' all_wait c a known told is fit all begun)
              where
                written : Queues held waiting held' [] [] → Appends held held' waiting
                written (bytes, wrote, split) = subst (Appends held held') (sym (append-nil bytes) ∙ sym split ∙ append-nil waiting) wrote

        -- it was not the last
        pub Searched-next : is_last item ≡ false → Searched keeps lead end tells texts of on first old tree' files'
            search' findings' held' waiting'
        Searched-next goes_on = by_item item refl goes_on
          where
            more : (it : Result (FoundPath A) (SearchFault A)) → it ≡ item →
                Queues held waiting held' waiting' (item_record keeps lead end it)
            more it same = subst (λ i. Queues held waiting held' waiting' (item_record keeps lead end i)) (sym same) queued

            notes : (it : Result (FoundPath A) (SearchFault A)) → it ≡ item → findings' ≡ noting keeps findings it
            notes it same = noted ∙ ap (noting keeps findings) (sym same)

            given_as : (it : Result (FoundPath A) (SearchFault A)) → it ≡ item → Over tells texts of on first (Gives (Some it))
            given_as it same c a known told is fit all begun =
                subst (λ i. Gives (Some i) c a known all) (sym same) (gives_item c a known told is fit all begun)

            with_fault : (it : SearchFault A) → Err it ≡ item →
                (findings'.has_fault ≡ true → Over tells texts of on first (Goes keeps lead w.paths findings' search'))
                → Searched keeps lead end tells texts of on first old tree' files' search' findings' held' waiting'
            with_fault it same goes = record {
              paths = w.paths;
              same = told' ∙ w.same;
              same_texts = told_texts' ∙ w.same_texts;
              names = names' ∙ w.names;
              queued = subst (Queues old [] held' waiting') (append-nil (with_ends end w.paths))
                  (Queues-trans old held held' [] waiting waiting' (with_ends end w.paths) [] w.queued (more (Err it) same));
              path = ap (λ f. f.has_path) (notes (Err it) same) ∙ w.path;
              goes = goes (ap (λ f. f.has_fault) (notes (Err it) same));
            }

            -- the path is not kept
            skipped : (found : FoundPath A) → Ok found ≡ item → keeps (string_bytes found.path) ≡ false
                → Searched keeps lead end tells texts of on first old tree' files' search' findings' held' waiting'
            skipped found same kept_not =
                let still : findings' ≡ findings =
                notes (Ok found) same ∙ ap (λ b. cond b (record findings { has_path = true }) findings) kept_not in
                let none : Queues held waiting held' waiting' [] =
                subst (Queues held waiting held' waiting') (ap
                (λ b. cond b (ended_record end (lead ++ string_bytes found.path)) []) kept_not)
                (more (Ok found) same) in
                record {
                  paths = w.paths;
                  same = told' ∙ w.same;
                  same_texts = told_texts' ∙ w.same_texts;
                  names = names' ∙ w.names;
                  queued = subst (Queues old [] held' waiting') (append-nil (with_ends end w.paths))
                      (Queues-trans old held held' [] waiting waiting' (with_ends end w.paths) [] w.queued none);
                  path = ap (λ f. f.has_path) still ∙ w.path;
                  goes = λ c a known told is fit all begun.
                      let (given, next, are, faults) = given_as (Ok found) same c a known told is fit all begun in (
                        given ++ Found next.names ∷ [],
                        next.goes,
                        paths_skip keeps lead w.paths given _ next.names are next.path kept_not,
                        λ u. ap (λ f. f.has_fault) still ∙ faults (sym (has_unread-found given next.names) ∙ u),
                      );
                }

            -- the path is kept
            pushed : (found : FoundPath A) → Ok found ≡ item → keeps (string_bytes found.path) ≡ true
                → Searched keeps lead end tells texts of on first old tree' files' search' findings' held' waiting'
            pushed found same kept_is =
                let noted_path : findings' ≡ record findings { has_path = true } =
                notes (Ok found) same ∙ ap (λ b. cond b (record findings { has_path = true }) findings) kept_is in
                let one : Queues held waiting held' waiting' (ended_record end (lead ++ string_bytes found.path)) =
                subst (Queues held waiting held' waiting') (ap
                (λ b. cond b (ended_record end (lead ++ string_bytes found.path)) []) kept_is)
                (more (Ok found) same) in
                record {
                  paths = w.paths ++ (lead ++ string_bytes found.path) ∷ [];
                  same = told' ∙ w.same;
                  same_texts = told_texts' ∙ w.same_texts;
                  names = names' ∙ w.names;
                  queued = subst (Queues old [] held' waiting') (sym (records_push end w.paths (lead ++ string_bytes found.path)))
                      (Queues-trans old held held' [] waiting waiting' (with_ends end w.paths)
                      (ended_record end (lead ++ string_bytes found.path))
                      w.queued one);
                  path = ap (λ f. f.has_path) noted_path ∙ sym (has_any-push w.paths (lead ++ string_bytes found.path));
                  goes = λ c a known told is fit all begun.
                      let still : findings'.has_fault ≡ findings.has_fault = ap (λ f. f.has_fault) noted_path in
                      let (given, next, are, faults) = given_as (Ok found) same c a known told is fit all begun in (
                        given ++ Found next.names ∷ [],
                        next.goes,
                        paths_push keeps lead w.paths given _ next.names are next.path kept_is,
                        λ u. still ∙ faults (sym (has_unread-found given next.names) ∙ u),
                      );
                }

            by_path : (found : FoundPath A) → Ok found ≡ item → (b : Bool) → keeps (string_bytes found.path) ≡ b
                → Searched keeps lead end tells texts of on first old tree' files' search' findings' held' waiting'
            by_path found same true kept_is = pushed found same kept_is
            by_path found same false kept_not = skipped found same kept_not

            by_item : (it : Result (FoundPath A) (SearchFault A)) → it ≡ item → is_last it ≡ false
                → Searched keeps lead end tells texts of on first old tree' files' search' findings' held' waiting'
            by_item (Ok found) same _ = by_path found same (keeps (string_bytes found.path)) refl
            by_item (Err (fault.Unread path e)) same _ = with_fault (fault.Unread path e) same (λ set c a known told is fit all begun.
                let (given, next, are, _) = given_as (Err (fault.Unread path e)) same c a known told is fit all begun in
                (_, next.goes, paths_same keeps lead w.paths given next.names _ are, λ _. set))
            by_item (Err (fault.UnreadRules path e)) same _ =
                with_fault (fault.UnreadRules path e) same (λ set c a known told is fit all begun.
                let (_, next, _, _) = given_as (Err (fault.UnreadRules path e)) same c a known told is fit all begun in absurd next)
            by_item (Err (fault.RefusedRules path refusals)) same _ =
                with_fault (fault.RefusedRules path refusals) same (λ set c a known told is fit all begun.
                let (given, next, are, _) = given_as (Err (fault.RefusedRules path refusals)) same c a known told is fit all begun in
                (given, next.goes, are, λ _. set))
            by_item (Err fault.Limit) same never = absurd (false≢true (sym never))
            by_item (Err fault.Memory) same never = absurd (false≢true (sym never))
