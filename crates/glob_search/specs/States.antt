-- What contracts see of a search, and what it has given over a known content.
use Rattle.std.specs.Prelude.{◌≡◌, ℕ, ◌+◌, ◌≤◌, Bool, true, false, List, [], ◌∷◌, ◌++◌, Contains, Option, Some, None, Result, Ok, Err, IsTrue, string_bytes, ⊤}
use Rattle.std.specs.IoError.{error_kind}
use Rattle.std.specs.declared.io.ErrorKind.{ErrorKind}
use Rattle.std.specs.Option.{ForSome}
use Rattle.std.specs.declared.cmp.Ordering.TheVariants.{Less}
use Rattle.glob_text.specs.Text.{Text}
use Rattle.glob_tree.specs.Content.{Content, Key, is_dir_at}
use Rattle.glob_tree.specs.Paths.{child}
use Rattle.glob_rules.specs.declared.error.RuleRefusal.{RuleRefusal}
use Rattle.glob_search.specs.Aims.{AreRefused, files_of, outer_of, path_down, path_of}
use Rattle.glob_search.specs.Kept.{Rules, given_rules}
use Rattle.glob_search.specs.Laws.{key_cmp}
use Rattle.glob_search.specs.Searching.{Aim, is_taken}
use Rattle.glob_search.specs.Visiting.{Gift, Found, Unread}
use Rattle.glob_search.specs.declared.fault.SearchFault.{SearchFault}
use Rattle.glob_search.specs.declared.fault.SearchFault.TheVariants as fault
use Rattle.glob_search.specs.declared.found.Found.{Found as FoundPath}
use Rattle.glob_search.specs.declared.settings.Settings.{Settings}

-- How far a search has come is private, and has a type of its own. A caller knows what is left of the gifts over a
-- content, and whether the answers so far agree with this content and the known texts of files. Over any tree, each
-- path that is still to be found comes after the names that the search has passed, and one of its patterns takes it.
pub record Progress : Type 1 where
  pub State : Type 0
  pub left : Content → Aim → State → List Gift
  pub Agrees : Content → Aim → (known : Text → Option Text) → State → Type 0
  pub IsPast : Key → State → Type 0
  pub HasPatterns : Aim → State → Type 0
  pub IsEnded : State → Type 0

-- what contracts see of a search
pub record SearchState (P : Progress) : Type 0 where
  pub limit : ℕ
  -- the units of work that were charged
  pub spent : ℕ
  -- how many names a found path may have
  pub depth : ℕ
  -- it always learns whether what it finds is a directory
  pub kinds : Bool
  -- the names of the ignore files
  pub files : List Text
  -- the rules that it asks where it is: those that it was given, and those of the ignore files on the way
  pub rules : Rules
  -- at most this many paths and faults are still to come
  pub remaining : ℕ
  -- how far it has come
  pub state : P.State

-- the search has these settings, and has not asked anything yet
pub record IsBegun {A : Type 0} {P : Progress} (settings : Settings A) (s : SearchState P) : Type 0 where
  pub most : s.limit ≡ settings.limit
  pub spent : s.spent ≡ 0
  pub deep : s.depth ≡ settings.depth
  pub kinds : s.kinds ≡ settings.kinds
  pub files : s.files ≡ files_of settings
  pub rules : s.rules ≡ given_rules settings.first.items (outer_of settings.last.items)

-- The content and the texts have given all answers so far. These gifts were given, and the rest of `all` is left.
pub record HasGiven {P : Progress} (all : List Gift) (c : Content) (a : Aim) (known : Text → Option Text) (given : List Gift)
    (s : SearchState P) : Type 0 where
  pub agrees : P.Agrees c a known s.state
  pub upto : all ≡ given ++ P.left c a s.state

-- The path of the next gift, with the kind in the content, if the search knows the kind.
pub record GivesFound {A : Type 0} {P : Progress} (all : List Gift) (c : Content) (a : Aim) (known : Text → Option Text)
    (given : List Gift) (found : FoundPath A) (s : SearchState P) : Type 0 where
  pub names : Key
  pub path : string_bytes found.path ≡ path_of names
  pub kind : ForSome found.is_dir (λ d. d ≡ is_dir_at c (c.current ++ names))
  pub goes : HasGiven all c a known (given ++ Found names ∷ []) s

-- The next gift is a directory that cannot be listed, with its error.
pub record GivesUnread {P : Progress} (all : List Gift) (c : Content) (a : Aim) (known : Text → Option Text)
    (given : List Gift) (text : Text) (kind : ErrorKind) (s : SearchState P) : Type 0 where
  pub names : Key
  pub path : text ≡ path_of names
  pub goes : HasGiven all c a known (given ++ Unread names kind ∷ []) s

-- Lines of an ignore file are refused. The search goes on with the rules of its other lines.
pub record GivesRefused {P : Progress} (all : List Gift) (c : Content) (a : Aim) (known : Text → Option Text)
    (given : List Gift) (path : Text) (refusals : List RuleRefusal) (s : SearchState P) : Type 0 where
  pub refused : AreRefused known s.files path refusals
  pub goes : HasGiven all c a known given s

-- What the next call does: it says that nothing is left, gives the next gift, or reports refused lines. Of the last
-- fault, by which a search ends at its limit or without memory, nothing is said. No ignore file fails to be read, since
-- the texts are known.
abbrev pub GivesNext : {A : Type 0} {P : Progress} → (all : List Gift) → Content → Aim → (known : Text → Option Text)
    → (given : List Gift) → Option (Result (FoundPath A) (SearchFault A)) → SearchState P → Type 0
GivesNext all c a known given None s = all ≡ given
GivesNext all c a known given (Some (Ok found)) s = GivesFound all c a known given found s
GivesNext all c a known given (Some (Err (fault.Unread path e))) s =
    GivesUnread all c a known given (string_bytes path) (error_kind e) s
GivesNext all c a known given (Some (Err (fault.UnreadRules path e))) s = ⊥
GivesNext all c a known given (Some (Err (fault.RefusedRules path refusals))) s =
    GivesRefused all c a known given (string_bytes path) refusals.items s
GivesNext all c a known given (Some (Err fault.Limit)) s = ⊤
GivesNext all c a known given (Some (Err fault.Memory)) s = ⊤

-- nothing is left
abbrev pub IsEnded : {P : Progress} → SearchState P → Type 0
IsEnded {P} s = P.IsEnded s.state

-- This fault is the last: it ends the search.
abbrev pub is_last : {A : Type 0} → SearchFault A → Bool
is_last (fault.Unread path e) = false
is_last (fault.UnreadRules path e) = false
is_last (fault.RefusedRules path refusals) = false
is_last fault.Limit = true
is_last fault.Memory = true

-- After `None`, and after the last fault, nothing is left.
abbrev pub Ends : {A : Type 0} → Option (Result (FoundPath A) (SearchFault A)) → (ended : Type 0) → Type 0
Ends None ended = ended
Ends (Some (Ok found)) ended = ⊤
Ends (Some (Err f)) ended = is_last f ≡ true → ended

-- At least one unit was charged for each question to the tree, and for each entry in its answers. But at the limit a
-- listing may have had more entries than could be charged.
abbrev pub IsPaid : {A B : Type 0} → Result B (SearchFault A) → (asked_before asked spent_before spent : ℕ) → Type 0
IsPaid (Ok x) p q m n = q + m ≤ p + n
IsPaid (Err fault.Limit) p q m n = ⊤
IsPaid (Err fault.Memory) p q m n = q + m ≤ p + n
IsPaid (Err (fault.Unread path e)) p q m n = q + m ≤ p + n
IsPaid (Err (fault.UnreadRules path e)) p q m n = q + m ≤ p + n
IsPaid (Err (fault.RefusedRules path refusals)) p q m n = q + m ≤ p + n

-- each path that is still to be found comes after these names
abbrev pub IsPast : {P : Progress} → (past : Key) → SearchState P → Type 0
IsPast {P} past s = P.IsPast past s.state

-- the search is for the patterns of the aim, under its options
abbrev pub HasPatterns : {P : Progress} → Aim → SearchState P → Type 0
HasPatterns {P} a s = P.HasPatterns a s.state

-- The names of the found path come later than these, a pattern takes them, and the search has now passed them.
pub record FindsAfter {A : Type 0} {P : Progress} (past : Key) (found : FoundPath A) (s : SearchState P)
    : Type 0 where
  pub names : Key
  pub path : string_bytes found.path ≡ path_down names
  pub later : key_cmp past names ≡ Less
  pub taken : (a : Aim) → HasPatterns a s → IsTrue (is_taken a names)
  pub goes : IsPast names s

-- What the next call does, over any tree: each path that is found comes after all earlier ones, and a pattern takes it.
abbrev pub GoesAfter : {A : Type 0} {P : Progress} → (past : Key) → Option (Result (FoundPath A) (SearchFault A))
    → SearchState P → Type 0
GoesAfter past None s = IsPast past s
GoesAfter past (Some (Ok found)) s = FindsAfter past found s
GoesAfter past (Some (Err f)) s = IsPast past s

-- The path of a file in some directory, with one of these names.
pub record IsRuleFile (files : List Text) (path : Text) : Type 0 where
  pub directory : Text
  pub file : Text
  pub named : Contains files file
  pub at : path ≡ child directory file

-- A fault of an ignore file is about a file with one of these names, so there is none if no names are given.
abbrev pub FitsFiles : {A : Type 0} → (files : List Text) → SearchFault A → Type 0
FitsFiles files (fault.Unread path e) = ⊤
FitsFiles files (fault.UnreadRules path e) = IsRuleFile files (string_bytes path)
FitsFiles files (fault.RefusedRules path refusals) = IsRuleFile files (string_bytes path)
FitsFiles files fault.Limit = ⊤
FitsFiles files fault.Memory = ⊤
