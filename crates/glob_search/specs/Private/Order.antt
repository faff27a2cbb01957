-- How far a search over any tree has come: everything that is left comes later.
use Rattle.std.specs.Prelude.{◌≡◌, ◌⊎◌, false, true, List, [], ◌∷◌, ◌++◌, Contains, reverse, Option, None, Some, Result, Ok, Err}
use Rattle.std.specs.Prelude.{string_bytes, ⊤}
use Rattle.std.specs.Cmp.Lexicographic.{slice_cmp}
use Rattle.std.specs.Ordering.{nat_cmp}
use Rattle.std.specs.declared.cmp.Ordering.TheVariants.{Less}
use Rattle.glob_text.specs.Text.{Text}
use Rattle.glob_tree.specs.Content.{Key}
use Rattle.glob_tree.specs.declared.tree.Entry.{Entry}
use Rattle.glob_search.specs.Aims.{path_down}
use Rattle.glob_search.specs.Laws.{key_cmp}
use Rattle.glob_search.specs.Searching.{Aim, is_taken}
use Rattle.glob_search.specs.States.{is_last}
use Rattle.glob_search.specs.Private.Listings.{AreFalling}
use Rattle.glob_search.specs.Private.Nodes.{AreAlive, AreBeginnings}
use Rattle.glob_search.specs.declared.beginnings.Beginnings.{Beginnings}
use Rattle.glob_search.specs.declared.fault.SearchFault.{SearchFault}
use Rattle.glob_search.specs.declared.found.Found.{Found as FoundPath}
use Rattle.glob_search.specs.declared.frame.Frame.{Frame}
use Rattle.glob_search.specs.declared.frame.Opening.{Opening}
use Rattle.glob_search.specs.declared.searcher.Searcher.{Searcher}
use Rattle.glob_search.specs.declared.way.Way.{Way}
use Rattle.glob_search.specs.declared.way.Work.{Work}
use Rattle.glob_search.specs.declared.way.Work.TheVariants.{Enter, Read, Meet, Leave}

-- the first names are the same as the second, or come before them
abbrev pub IsUpTo : (past at : Key) → Type 0
IsUpTo past at = (past ≡ at) ⊎ (key_cmp past at ≡ Less)

-- The frame is of the directory with these names: what is alive in it takes them, and its entries that are left descend.
pub record IsFrameOf {A : Type 0} (b : Beginnings A) (names : Key) (f : Frame A) : Type 0 where
  pub path : string_bytes f.path ≡ path_down names
  pub alive : AreAlive b names f.alive.items
  pub falls : AreFalling f.entries.items

-- the directory that is entered next is the one with these names, and what is alive in it takes them
pub record IsOpened {A : Type 0} (b : Beginnings A) (names : Key) (o : Opening A) : Type 0 where
  pub path : string_bytes o.path ≡ path_down names
  pub alive : AreAlive b names o.alive.items

-- each of the entries has a greater name
abbrev pub AreAfter : {A : Type 0} → Text → List (Entry A) → Type 0
AreAfter {A} n entries = (e : Entry A) → Contains entries e → slice_cmp nat_cmp n e.name ≡ Less

-- The names are one below the last directory, in which only greater names are left; and so on upwards.
abbrev pub IsNested : {A : Type 0} → Beginnings A → (names : Key) → List (Frame A) → Type 0
IsNested b names [] = ⊤
IsNested b names (f ∷ fs) =
    (directory : Key) × (n : Text) × (names ≡ directory ++ n ∷ []) × IsFrameOf b directory f × AreAfter n f.entries.items
    × IsNested b directory fs

-- what is left in the last directory comes after the names; and so on upwards
abbrev pub IsAhead : {A : Type 0} → Beginnings A → (names : Key) → List (Frame A) → Type 0
IsAhead b names [] = ⊤
IsAhead {A} b names (f ∷ fs) =
    (directory : Key) × (rest : Key) × (names ≡ directory ++ rest) × IsFrameOf b directory f
    × ((e : Entry A) → Contains f.entries.items e → key_cmp rest (e.name ∷ []) ≡ Less) × IsNested b directory fs

-- Everything that is left comes after these names: what is entered next, and then the directories, the last one first.
abbrev pub IsPastAll : {A : Type 0} → Beginnings A → (past : Key) → Option (Opening A) → List (Frame A) → Type 0
IsPastAll b past None fs = (names : Key) × IsUpTo past names × IsAhead b names fs
IsPastAll b past (Some o) fs = (names : Key) × IsOpened b names o × IsUpTo past names × IsNested b names fs

abbrev pub IsPastWay : {A : Type 0} → Beginnings A → (past : Key) → Way A → Type 0
IsPastWay b past w = IsPastAll b past w.entering (reverse w.frames.items)

abbrev pub IsPastSearch : {A : Type 0} → (past : Key) → Searcher A → Type 0
IsPastSearch past s = IsPastWay s.beginnings past s.way

-- the entry of the last directory, and everything that is left, comes after these names
abbrev pub IsPastEntry : {A : Type 0} → Beginnings A → (past : Key) → Entry A → List (Frame A) → Type 0
IsPastEntry b past e [] = ⊥
IsPastEntry b past e (f ∷ fs) =
    (directory : Key) × IsFrameOf b directory f × AreAfter e.name f.entries.items
    × (key_cmp past (directory ++ e.name ∷ []) ≡ Less) × IsNested b directory fs

-- what holds when the next work has been taken from the way
abbrev pub IsPastWork : {A : Type 0} → Beginnings A → (past : Key) → Work A → Way A → Type 0
IsPastWork b past (Enter o) w = (w.entering ≡ None) × IsPastAll b past (Some o) (reverse w.frames.items)
IsPastWork b past (Read n) w = IsPastWay b past w
IsPastWork b past (Meet e) w = (w.entering ≡ None) × IsPastEntry b past e (reverse w.frames.items)
IsPastWork b past (Leave n) w = IsPastWay b past w

-- The found path has later names, and the patterns take them.
pub record FindsLater {A : Type 0} (b : Beginnings A) (past : Key) (found : FoundPath A) (w : Way A) : Type 0 where
  pub names : Key
  pub path : string_bytes found.path ≡ path_down names
  pub later : key_cmp past names ≡ Less
  pub taken : (a : Aim) → AreBeginnings a.options a.patterns b → is_taken a names ≡ true
  pub goes : IsPastWay b names w

-- what a turn does to this order, unless it ends the search
abbrev pub TurnsLater : {A : Type 0} → Beginnings A → (past : Key) → Result (Option (FoundPath A)) (SearchFault A)
    → Way A → Type 0
TurnsLater b past (Ok None) w = IsPastWay b past w
TurnsLater b past (Ok (Some found)) w = FindsLater b past found w
TurnsLater b past (Err f) w = is_last f ≡ false → IsPastWay b past w

-- the same for a turn that gives no path
abbrev pub StaysPast : {A B : Type 0} → Beginnings A → (past : Key) → Result B (SearchFault A) → Way A → Type 0
StaysPast b past (Ok done) w = IsPastWay b past w
StaysPast b past (Err f) w = is_last f ≡ false → IsPastWay b past w
