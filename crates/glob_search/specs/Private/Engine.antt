-- What holds for a search between two turns, if a known content gave the answers, and what a turn does to it.
use Rattle.std.specs.Prelude.{◌≡◌, ◌≢◌, ℕ, suc, ◌<◌, ◌≤◌, Bool, true, false, List, [], ◌∷◌, ◌++◌, length, map, take}
use Rattle.std.specs.Prelude.{reverse, Option, None, Some, Result, Ok, Err, String, Vec, string_bytes, vec_len}
use Rattle.std.specs.Prelude.{if◌then◌else◌, ⊤}
use Rattle.std.specs.IoError.{error_kind}
use Rattle.std.specs.List.{All, list_all}
use Rattle.std.specs.Option.{ForSome}
use Rattle.std.specs.declared.io.ErrorKind.{ErrorKind}
use Rattle.glob_text.specs.Text.{Text}
use Rattle.glob_tree.specs.Answers.{IsTold, entries_of, names_of}
use Rattle.glob_rules.specs.Lists.{Ignores}
use Rattle.glob_rules.specs.declared.error.RuleRefusal.{RuleRefusal}
use Rattle.glob_tree.specs.Content.{Content, Key, is_dir, is_dir_at}
use Rattle.glob_tree.specs.declared.kind.Kind.{Kind}
use Rattle.glob_tree.specs.declared.tree.Entry.{Entry}
use Rattle.glob_tree.specs.Paths.{is_proper}
use Rattle.glob_search.specs.Aims.{AreRefused, AreTextsOf, outer_of, path_of, rules_from, wants}
use Rattle.glob_search.specs.Searching.{Aim, is_ignored, is_listed}
use Rattle.glob_search.specs.Visiting.{Gift, Found, Unread}
use Rattle.glob_search.specs.Kept.{is_ignored_by}
use Rattle.glob_search.specs.Private.Active.{AreActive, above_of, after, active_lists, lists_above, lists_at, rules_here}
use Rattle.glob_search.specs.Private.Listings.{IsEntry, names_down}
use Rattle.glob_search.specs.Private.Nodes.{AreAlive, AreBeginnings}
use Rattle.glob_search.specs.Private.Ways.{entries_left, met, names_in, opening_left, search_left, visited}
use Rattle.glob_search.specs.declared.beginnings.Beginnings.{Beginnings}
use Rattle.glob_search.specs.declared.fault.SearchFault.{SearchFault}
use Rattle.glob_search.specs.declared.fault.SearchFault.TheVariants as fault
use Rattle.glob_search.specs.declared.found.Found.{Found as FoundPath}
use Rattle.glob_search.specs.declared.frame.Frame.{Frame}
use Rattle.glob_search.specs.declared.frame.Opening.{Opening}
use Rattle.glob_search.specs.declared.frame.Source.{Source}
use Rattle.glob_search.specs.declared.frame.Source.TheVariants.{LookedUp, Listed, Named}
use Rattle.glob_search.specs.declared.searcher.Searcher.{Searcher}
use Rattle.glob_search.specs.declared.settings.Wanted.TheVariants.{All as Everything}
use Rattle.glob_search.specs.declared.way.Work.{Work}
use Rattle.glob_search.specs.declared.way.Work.TheVariants.{Enter, Read, Meet, Leave}

-- the names of ignore files
abbrev pub file_names : {A : Type 0} → Searcher A → List Text
file_names s = map (λ file. string_bytes file) s.rule_files.items

abbrev pub frame_names : {A : Type 0} → Frame A → Key
frame_names f = names_in (string_bytes f.path)

abbrev pub opening_names : {A : Type 0} → Opening A → Key
opening_names o = names_in (string_bytes o.path)

-- the path leads to a directory of the content, and the numbers are the beginnings alive in it
pub record IsDirectory {A : Type 0} (c : Content) (b : Beginnings A) (text : Text) (numbers : List ℕ) : Type 0 where
  pub path : text ≡ path_of (names_in text)
  pub there : is_dir_at c (c.current ++ names_in text) ≡ true
  pub alive : AreAlive b (names_in text) numbers

-- If no directory is on the way, the names lead to the start; otherwise they are the names of the last directory on the
-- way, which is the first of the list, and one more.
abbrev pub IsBelow : {A : Type 0} → (names : Key) → List (Frame A) → Type 0
IsBelow names [] = names ≡ []
IsBelow names (f ∷ fs) = (n : Text) × (names ≡ frame_names f ++ n ∷ [])

pub record IsFrame {A : Type 0} (c : Content) (a : Aim) (b : Beginnings A) (f : Frame A) (fs : List (Frame A)) : Type 0 where
  pub directory : IsDirectory c b (string_bytes f.path) f.alive.items
  pub below : IsBelow (frame_names f) fs
  pub entries : All (IsEntry c (frame_names f) f.source) f.entries.items
  pub active : f.active ≡ length (lists_above a (frame_names f))

-- The directories on the way, the last one first, each with at least this many ignore files done.
abbrev pub AreFrames : {A : Type 0} → Content → Aim → Beginnings A → (files : ℕ) → List (Frame A) → Type 0
AreFrames c a b files [] = ⊤
AreFrames c a b files (f ∷ fs) = IsFrame c a b f fs × (files ≤ f.files) × AreFrames c a b files fs

-- the lists of files that apply in the last directory, or none before the start
abbrev pub lists_of : {A : Type 0} → Aim → List (Frame A) → List (ℕ × Ignores)
lists_of a [] = []
lists_of a (f ∷ fs) = lists_at a (frame_names f)

-- the lists that apply in a directory after this many of its ignore files were read
abbrev pub lists_up_to : (known : Text → Option Text) → Aim → (files : List Text) → (names : Key) → ℕ → List (ℕ × Ignores)
lists_up_to known a files names n = lists_above a names ++ after (above_of names) (rules_from known (take n files) names)

-- the directory that is entered next is in the last directory on the way
pub record IsOpening {A : Type 0} (c : Content) (b : Beginnings A) (fs : List (Frame A)) (o : Opening A) : Type 0 where
  pub directory : IsDirectory c b (string_bytes o.path) o.alive.items
  pub below : IsBelow (opening_names o) fs

-- what stays the same during a search
pub record IsFor {A : Type 0} (a : Aim) (s : Searcher A) : Type 0 where
  pub beginnings : AreBeginnings a.options a.patterns s.beginnings
  pub depth : a.depth ≡ s.depth
  pub wanted : (kind : Kind) → a.is_wanted kind ≡ wants s.wanted (is_dir kind)
  pub first : active_lists s.active.first.items ≡ after 0 a.first
  pub last : outer_of s.active.last.items ≡ a.last

-- All ignore files of the directories on the way were read, and the directory that is entered next is below them.
pub record IsReady {A : Type 0} (c : Content) (a : Aim) (s : Searcher A) : Type 0 where
  pub for : IsFor a s
  pub frames : AreFrames c a s.beginnings (length (file_names s)) (reverse s.way.frames.items)
  pub opening : ForSome s.way.entering (IsOpening c s.beginnings (reverse s.way.frames.items))
  pub active : active_lists s.active.files.items ≡ lists_of a (reverse s.way.frames.items)

-- So far this many ignore files of the last directory were read.
pub record IsReading {A : Type 0} (c : Content) (a : Aim) (known : Text → Option Text) (s : Searcher A) (n : ℕ) : Type 0 where
  pub for : IsFor a s
  pub free : s.way.entering ≡ None
  pub last : Frame A
  pub above : List (Frame A)
  pub frames : reverse s.way.frames.items ≡ last ∷ above
  pub frame : IsFrame c a s.beginnings last above
  pub others : AreFrames c a s.beginnings (length (file_names s)) above
  pub active : active_lists s.active.files.items ≡ lists_up_to known a (file_names s) (frame_names last) n
  pub whole : last.source ≢ LookedUp → names_of (entries_of last.entries.items) ≡ names_down c (frame_names last)

-- a known content and known texts give the answers, and the rules of the search are those of the texts
pub record AreAnswers (tells : Option Content) (texts : Option (Text → Option Text)) (files : List Text) (c : Content) (a : Aim)
    (known : Text → Option Text) : Type 0 where
  pub told : IsTold tells c
  pub same : texts ≡ Some known
  pub fit : AreTextsOf c a files known

-- what holds between two turns
pub data IsSound {A : Type 0} (c : Content) (a : Aim) (known : Text → Option Text) (s : Searcher A) : Type 0 where
  Ready : IsReady c a s → IsSound c a known s
  Reading : (n : ℕ) → (r : IsReading c a known s n) → r.last.files ≡ n → IsSound c a known s

-- The entry belongs to the last directory.
abbrev pub IsMet : {A : Type 0} → Content → List (Frame A) → Entry A → Type 0
IsMet c [] e = ⊥
IsMet c (f ∷ fs) e = IsEntry c (frame_names f) f.source e

-- a directory was left, and these are the lists that apply above it
pub record IsLeft {A : Type 0} (c : Content) (a : Aim) (s : Searcher A) (n : ℕ) : Type 0 where
  pub for : IsFor a s
  pub free : s.way.entering ≡ None
  pub frames : AreFrames c a s.beginnings (length (file_names s)) (reverse s.way.frames.items)
  pub active : take n (active_lists s.active.files.items) ≡ lists_of a (reverse s.way.frames.items)

-- what holds when the next work has been taken from the way
abbrev pub HasWork : {A : Type 0} → Content → Aim → (known : Text → Option Text) → Searcher A → Work A → Type 0
HasWork c a known s (Enter o) =
    IsReady c a s × (s.way.entering ≡ None) × IsOpening c s.beginnings (reverse s.way.frames.items) o
HasWork c a known s (Read n) =
    (r : IsReading c a known s n) × (r.last.files ≡ suc n) × (n < length (file_names s))
HasWork c a known s (Meet e) = IsReady c a s × (s.way.entering ≡ None) × IsMet c (reverse s.way.frames.items) e
HasWork c a known s (Leave n) = IsLeft c a s n

abbrev pub met_in : {A : Type 0} → Content → Aim → List (Frame A) → Text → List Gift
met_in c a [] n = []
met_in c a (f ∷ fs) n = met c a (frame_names f) n

-- the gifts of this work
abbrev pub work_left : {A : Type 0} → Content → Aim → Searcher A → Work A → List Gift
work_left c a s (Enter o) = opening_left c a (Some o)
work_left c a s (Read n) = []
work_left c a s (Meet e) = met_in c a (reverse s.way.frames.items) e.name
work_left c a s (Leave n) = []

-- The fault is the next gift: a directory that cannot be listed.
pub record GivesShut {A : Type 0} (c : Content) (a : Aim) (before : List Gift) (text : Text) (kind : ErrorKind) (s : Searcher A)
    : Type 0 where
  pub names : Key
  pub path : text ≡ path_of names
  pub ready : IsReady c a s
  pub rest : before ≡ Unread names kind ∷ search_left c a s

-- The gifts that were left are still left.
pub record Keeps {A : Type 0} (c : Content) (a : Aim) (known : Text → Option Text) (before : List Gift) (s : Searcher A) : Type 0 where
  pub sound : IsSound c a known s
  pub rest : before ≡ search_left c a s

-- Lines of an ignore file are refused, and the gifts that were left are still left.
pub record GivesRefusals {A : Type 0} (c : Content) (a : Aim) (known : Text → Option Text) (before : List Gift) (path : Text)
    (refusals : List RuleRefusal) (s : Searcher A) : Type 0 where
  pub refused : AreRefused known (file_names s) path refusals
  pub keeps : Keeps c a known before s

-- what a fault means for the gifts that were left
abbrev pub FaultGives : {A : Type 0} → Content → Aim → (known : Text → Option Text) → (before : List Gift) → SearchFault A
    → Searcher A → Type 0
FaultGives c a known before (fault.Unread path e) s = GivesShut c a before (string_bytes path) (error_kind e) s
FaultGives c a known before (fault.UnreadRules path e) s = ⊥
FaultGives c a known before (fault.RefusedRules path refusals) s =
    GivesRefusals c a known before (string_bytes path) refusals.items s
FaultGives c a known before fault.Limit s = ⊤
FaultGives c a known before fault.Memory s = ⊤

-- The path is the next gift.
pub record GivesPath {A : Type 0} (c : Content) (a : Aim) (before : List Gift) (found : FoundPath A) (s : Searcher A) : Type 0 where
  pub names : Key
  pub path : string_bytes found.path ≡ path_of names
  pub kind : ForSome found.is_dir (λ d. d ≡ is_dir_at c (c.current ++ names))
  pub ready : IsReady c a s
  pub rest : before ≡ Found names ∷ search_left c a s

-- what a turn does to the gifts that were left
abbrev pub Turns : {A : Type 0} → Content → Aim → (known : Text → Option Text) → (before : List Gift)
    → Result (Option (FoundPath A)) (SearchFault A) → Searcher A → Type 0
Turns c a known before (Ok None) s = Keeps c a known before s
Turns c a known before (Ok (Some found)) s = GivesPath c a before found s
Turns c a known before (Err f) s = FaultGives c a known before f s

-- the same for a turn that gives no path
abbrev pub GoesOn : {A B : Type 0} → Content → Aim → (known : Text → Option Text) → (before : List Gift)
    → Result B (SearchFault A) → Searcher A → Type 0
GoesOn c a known before (Ok done) s = Keeps c a known before s
GoesOn c a known before (Err f) s = FaultGives c a known before f s

-- The entries of a directory are known: what they give is what the directory gives.
pub record AreEntries {A : Type 0} (c : Content) (a : Aim) (names : Key) (source : Source) (entries : List (Entry A)) : Type 0 where
  pub each : All (IsEntry c names source) entries
  pub whole : source ≢ LookedUp → names_of (entries_of entries) ≡ names_down c names
  pub gives : entries_left c a names entries ≡ visited c a names

-- What listing a directory gives: its entries, or the fault that it cannot be listed.
abbrev pub EntriesGive : {A : Type 0} → Content → Aim → (names : Key) → Source → (path : Text)
    → Result (Vec (Entry A) A) (SearchFault A) → Type 0
EntriesGive c a names source path (Ok entries) = AreEntries c a names source entries.items
EntriesGive c a names source path (Err (fault.Unread text e)) =
    (string_bytes text ≡ path) × (visited c a names ≡ Unread names (error_kind e) ∷ [])
EntriesGive c a names source path (Err (fault.UnreadRules text e)) = ⊥
EntriesGive c a names source path (Err (fault.RefusedRules text refusals)) = ⊥
EntriesGive c a names source path (Err fault.Limit) = ⊤
EntriesGive c a names source path (Err fault.Memory) = ⊤

-- names are looked up if the directory need not be listed
abbrev pub FitsSource : Aim → (names : Key) → Source → Type 0
FitsSource a names LookedUp = is_listed a names ≡ false
FitsSource a names Listed = is_listed a names ≡ true
FitsSource a names Named = is_listed a names ≡ true

-- The kind of what is at the path does not matter: all kinds are wanted, and the rules ignore it as a directory exactly
-- when they ignore it as anything else.
pub record IsKindless {A : Type 0} (s : Searcher A) (path : Text) : Type 0 where
  pub all : s.wanted ≡ Everything
  pub same : (a : Aim) (directory : Key) (n : Text) → AreActive a directory s.active
      → list_all is_proper (directory ++ n ∷ []) ≡ true → path ≡ path_of (directory ++ n ∷ [])
      → is_ignored a (directory ++ n ∷ []) true ≡ is_ignored a (directory ++ n ∷ []) false
  pub read : is_ignored_by (rules_here s.active) path true ≡ is_ignored_by (rules_here s.active) path false

-- the directory became the last one on the way
pub record StepsInto {A : Type 0} (o : Opening A) (source : Source) (entries : Vec (Entry A) A) (old new : Searcher A) : Type 0 where
  pub last : Frame A
  pub frames : new.way.frames.items ≡ old.way.frames.items ++ last ∷ []
  pub still : new.way.entering ≡ old.way.entering
  pub is : last ≡ record {
    path = o.path;
    alive = o.alive;
    source = source;
    entries = entries;
    files = 0;
    active = vec_len old.active.files;
  }

-- the path that is found, if the test says so
abbrev pub found_if : {A : Type 0} → Bool → String A → Option Bool → Option (FoundPath A)
found_if test path d = if test then Some (record { path = path; is_dir = d }) else None
