-- The outcome of a search: its status, and what its output gained.
use Rattle.std.specs.Prelude.{◌≡◌, ◌≢◌, ◌⊎◌, ◌==◌, ℕ, Bool, true, if◌then◌else◌, List, [], ◌∷◌, Option, Some}
use Rattle.std.specs.List.{list_any}
use Rattle.glob_console.specs.Outcomes.{IsRefused}
use Rattle.glob_rules.specs.Lists.{Ignores}
use Rattle.glob_search.specs.Aims.{AreTextsOf}
use Rattle.glob_search.specs.Visiting.{gifts}
use Rattle.glob_set.specs.BraceSets.{AreAccepted, AreAlternativesOf}
use Rattle.glob_text.specs.Text.{Text}
use Rattle.glob_tree.specs.Answers.{IsTold}
use Rattle.glob_tree.specs.Content.{Content, Key}
use Rattle.globs.specs.Chosen.{Chosen}
use Rattle.globs.specs.Find.Aiming.{aim, heeded, heeds, placed, rule_files}
use Rattle.globs.specs.Find.Below.{are_below}
use Rattle.globs.specs.Find.Kinds.{keeps_of, kept}
use Rattle.globs.specs.Find.Leads.{leads_of, led, place_at}
use Rattle.globs.specs.Find.Writing.{WritesGifts}
use Rattle.globs.specs.Ignoring.{HasRules}
use Rattle.globs.specs.declared.find.kinds.PathKind.{PathKind}

-- What is known about the disk from a place on: its content, the texts of its files, the kinds of its paths, and the
-- names from the top of a repository down to the place.
pub record Known : Type 0 where
  pub content : Option Content
  pub texts : Option (Text → Option Text)
  pub kinds : Option (Text → PathKind)
  pub above : Option Key

-- what is known about the disk from each place on
pub record Disk : Type 0 where
  pub content : (place : Text) → Option Content
  pub texts : (place : Text) → Option (Text → Option Text)
  pub kinds : (place : Text) → Option (Text → PathKind)
  pub above : (place : Text) → Option Key

-- what is known about the place where a lead leads from the directory of the options
abbrev pub known_at : Disk → Chosen → (lead : Text) → Known
known_at disk o lead =
    let place = place_at o.directory lead in
    record { content = disk.content place; texts = disk.texts place; kinds = disk.kinds place; above = disk.above place }

-- This needs to be known: the content; the texts of the ignore files that the search heeds, which are files of the
-- content; the kinds of paths, if they matter; and with `--git` the names above. Then what the search gives and the
-- kinds keep was written, each path after the lead of the patterns. The search gives exactly what is to be found, in
-- ascending order of names, each once: `FindsTheFound` and `FoundAscend` of `glob_search`.
unfoldable pub FindsPaths : Known → Chosen → Ignores → (lead : Text) → (patterns : List Text)
    → (old new : Option (List ℕ)) → (status : ℕ) → Type 0
FindsPaths known o list lead patterns old new status =
    (c : Content) (text_at : Text → Option Text) (keeps : Text → Bool) (above : Key) → IsTold known.content c
    → heeded (heeds (rule_files o)) known.texts ≡ Some text_at → keeps_of o.settings.kinds known.kinds ≡ Some keeps
    → placed o.settings.is_git known.above ≡ Some above
    → let a = aim o list patterns above text_at in AreTextsOf c a (rule_files o) text_at
    → WritesGifts lead o.settings.end (kept keeps (gifts c a)) old new status

-- One search after another, one for each lead: for the patterns with this lead, from where it leads. Each has a status.
unfoldable pub FindsEach : Disk → Chosen → Ignores → (patterns leads : List Text) → (statuses : List ℕ)
    → (old new : Option (List ℕ)) → Type 0
FindsEach disk o list patterns [] [] old new = new ≡ old
FindsEach disk o list patterns [] (status ∷ statuses) old new = ⊥
FindsEach disk o list patterns (lead ∷ leads) [] old new = ⊥
FindsEach disk o list patterns (lead ∷ leads) (status ∷ statuses) old new =
    (next : Option (List ℕ)) × FindsPaths (known_at disk o lead) o list lead (led lead patterns) old next status
    × FindsEach disk o list patterns leads statuses next new

-- the status of several searches: 2 if a search has it, else 0 if a search has it, else 1
abbrev pub joint : (statuses : List ℕ) → ℕ
joint statuses =
    if list_any (λ status. status == 2) statuses then 2
    else (if list_any (λ status. status == 0) statuses then 0 else 1)

-- the searches for some leads, and their joint status
unfoldable pub FindsAll : Disk → Chosen → Ignores → (patterns leads : List Text) → (old new : Option (List ℕ))
    → (status : ℕ) → Type 0
FindsAll disk o list patterns leads old new status =
    (statuses : List ℕ) × FindsEach disk o list patterns leads statuses old new × (status ≡ joint statuses)

-- Either the words are refused, or their alternatives are searched for. Then, unless the status is 2, each alternative
-- is a valid pattern that matches only below the place to which it leads.
unfoldable pub Finds : {W : Type 0} → (contents : W → Option (List ℕ)) → Disk → Chosen → Ignores
    → (words : List Text) → (old new : W) → (status : ℕ) → Type 0
Finds contents disk o list words old new status =
    IsRefused old new status
    ⊎ ((patterns : List Text) × AreAlternativesOf words patterns
    × (status ≢ 2 → AreAccepted patterns × (are_below patterns ≡ true))
    × FindsAll disk o list patterns (leads_of patterns) (contents old) (contents new) status)

-- Either the rules of the command line are refused, or the search leaves out what the command line's files of rules and
-- single rules ignore.
unfoldable pub FindsUnignored : {W : Type 0} → (contents : W → Option (List ℕ)) → Disk
    → (holds : Text → Option Text) → Chosen → (words : List Text) → (old new : W) → (status : ℕ) → Type 0
FindsUnignored contents disk holds o words old new status =
    IsRefused old new status
    ⊎ ((list : Ignores) × HasRules holds o.files o.rules list × Finds contents disk o list words old new status)
