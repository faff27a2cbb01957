-- What a step changes in the way of a search, over any content.
use Rattle.std.specs.Prelude.{◌≡◌, ◌≢◌, ℕ, suc, ◌<◌, ◌≤◌, Bool, true, false, List, [], ◌∷◌, ◌++◌, IsTrue, length}
use Rattle.std.specs.Prelude.{slice_index_or, Option, None, Some, string_bytes}
use Rattle.glob_text.specs.Text.{Text}
use Rattle.glob_tree.specs.Answers.{entries_of, names_of}
use Rattle.glob_tree.specs.Content.{Content, Key, is_content, kind_at}
use Rattle.glob_tree.specs.declared.tree.Entry.{Entry}
use Rattle.glob_search.specs.Private.Listings.{names_down}
use Rattle.glob_search.specs.Private.Ways.{IsDone}
use Rattle.glob_search.specs.declared.frame.Frame.{Frame}
use Rattle.glob_search.specs.declared.frame.Opening.{Opening}
use Rattle.glob_search.specs.declared.frame.Source.TheVariants.{LookedUp}
use Rattle.glob_search.specs.declared.way.Way.{Way}
use Rattle.glob_search.specs.declared.way.Work.{Work}
use Rattle.glob_search.specs.declared.way.Work.TheVariants.{Enter, Read, Meet, Leave}

-- If these are all entries of a directory, none of them has the name.
pub record IsAbsent {A : Type 0} (f : Frame A) (name : Text) : Type 0 where
  pub known : f.source ≢ LookedUp
  pub absent : (c : Content) (names : Key) → IsTrue (is_content c)
      → names_of (entries_of f.entries.items) ≡ names_down c names → kind_at c (c.current ++ (names ++ name ∷ [])) ≡ None

-- the files with these names up to a number are skipped
pub record Passes {A : Type 0} (files : List Text) (old new : Frame A) (n : ℕ) : Type 0 where
  pub same : new ≡ record old { files = new.files }
  pub absent : (k : ℕ) → old.files ≤ k → k < n → IsAbsent old (slice_index_or files k [])

-- the number of the next file to read
abbrev pub NextFile : {A : Type 0} → (files : List Text) → Frame A → Option ℕ → Frame A → Type 0
NextFile files old None new = Passes files old new (length files) × (length files ≤ new.files)
NextFile files old (Some n) new =
    Passes files old new n × (old.files ≤ n) × (n < length files) × (new.files ≡ suc n)

-- the last directory is another one, or it is the same apart from what was visited and read
pub record LastGoes {A : Type 0} (old new : Way A) (f g : Frame A) : Type 0 where
  pub free : old.entering ≡ None
  pub still : new.entering ≡ None
  pub front : List (Frame A)
  pub before : old.frames.items ≡ front ++ f ∷ []
  pub after : new.frames.items ≡ front ++ g ∷ []

pub record ReadsNext {A : Type 0} (files : List Text) (old : Way A) (n : ℕ) (new : Way A) : Type 0 where
  pub last : Frame A
  pub passed : Frame A
  pub goes : LastGoes old new last passed
  pub next : NextFile files last (Some n) passed

pub record MeetsNext {A : Type 0} (files : List Text) (old : Way A) (e : Entry A) (new : Way A) : Type 0 where
  pub last : Frame A
  pub passed : Frame A
  pub left : Frame A
  pub goes : LastGoes old new last left
  pub next : NextFile files last None passed
  pub same : left ≡ record passed { entries = left.entries }
  pub entry : passed.entries.items ≡ left.entries.items ++ e ∷ []

pub record LeavesNext {A : Type 0} (files : List Text) (old : Way A) (n : ℕ) (new : Way A) : Type 0 where
  pub last : Frame A
  pub passed : Frame A
  pub free : old.entering ≡ None
  pub still : new.entering ≡ None
  pub before : old.frames.items ≡ new.frames.items ++ last ∷ []
  pub next : NextFile files last None passed
  pub none : last.entries.items ≡ []
  pub active : n ≡ last.active

-- what comes next
abbrev pub NextWork : {A : Type 0} → (files : List Text) → Way A → Option (Work A) → Way A → Type 0
NextWork files old None new = IsDone old
NextWork files old (Some (Enter o)) new =
    (old.entering ≡ Some o) × (new.entering ≡ None) × (new.frames.items ≡ old.frames.items)
NextWork files old (Some (Read n)) new = ReadsNext files old n new
NextWork files old (Some (Meet e)) new = MeetsNext files old e new
NextWork files old (Some (Leave n)) new = LeavesNext files old n new

pub record Enters {A : Type 0} (path : Text) (alive : List ℕ) (new : Way A) : Type 0 where
  pub opening : Opening A
  pub next : new.entering ≡ Some opening
  pub named : string_bytes opening.path ≡ path
  pub living : opening.alive.items ≡ alive

-- A directory is entered next, if the test says so.
abbrev pub MayEnter : {A : Type 0} → Bool → (path : Text) → (alive : List ℕ) → Way A → Way A → Type 0
MayEnter true path alive old new = Enters path alive new × (new.frames ≡ old.frames)
MayEnter false path alive old new = new ≡ old
