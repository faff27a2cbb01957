-- The outcome of a run: its status, and what its output gained.
use Rattle.std.specs.Prelude.{◌≡◌, ◌≢◌, ℕ, ◌<◌, ◌⊎◌, Option, Some, None, chars, List}
use Rattle.std.specs.Io.KnownBytes.{Keeps}
use Rattle.glob.specs.Answers.{IsTold}
use Rattle.glob.specs.Components.{walk_fault}
use Rattle.glob.specs.Content.{Content}
use Rattle.glob.specs.Escaping.{escaped_text}
use Rattle.glob.specs.Grammar.Units.{IsAccepted}
use Rattle.glob.specs.Lines.{FiltersLines, FiltersSomeBytes, ended_record, line_feed}
use Rattle.glob.specs.Walks.{listing}
use Rattle.glob.specs.Text.{Text}
use Rattle.glob.specs.Types.{MatchOptions}
use Rattle.glob_console.specs.FoundPaths.{IsFindStatus, WritesFound, every}
use Rattle.glob_console.specs.Outcomes.{IsRefused, WritesText}
use Rattle.glob_run.specs.Requests.{Request, Lines, Escaped, Paths}

-- Status 0: some lines match, and exactly these were written, in order. Status 1: no line matches, and none was
-- written. Status 2: the first n bytes of the matching lines were written, for some n.
unfoldable pub CopiesLines : MatchOptions → (pattern : Text) → (input old new : Option (List ℕ)) → (status : ℕ) → Type 0
CopiesLines options pattern input old new status =
    (status ≡ 0 → (n : ℕ) × (0 < n) × FiltersLines options pattern input old new n)
    × (status ≡ 1 → FiltersLines options pattern input old new 0)
    × (status ≡ 2 → FiltersSomeBytes options pattern input old new)

-- the pattern that matches the text literally, and a line feed
abbrev pub IsEscapedLine : (text line : Text) → Type 0
IsEscapedLine text line =
    (escaped : Text) × (chars escaped ≡ escaped_text (chars text)) × (line ≡ ended_record line_feed escaped)

-- The line was written, and the status is 0; or the status is 2, and only its first bytes were written, perhaps none.
unfoldable pub WritesEscaped : Text → (old new : Option (List ℕ)) → (status : ℕ) → Type 0
WritesEscaped text old new status =
    ((status ≡ 2) × Keeps old new)
    ⊎ ((line : Text) × IsEscapedLine text line × WritesText line old new status)

-- What a run does for each request, given the tree's content and the input if they are known. `contents` gives the
-- contents of an output; `old` is the output before the run, and `new` is the output after it. `None` is a usage fault.
unfoldable pub Fulfils : {W : Type 0} → (contents : W → Option (List ℕ)) → (tells : Option Content) → (input : Option (List ℕ))
    → Option Request → (old new : W) → (status : ℕ) → Type 0
Fulfils contents tells input None old new status = IsRefused old new status
Fulfils contents tells input (Some (Lines options pattern)) old new status =
    ((¬ (IsAccepted (chars pattern))) → IsRefused old new status)
    × CopiesLines options pattern input (contents old) (contents new) status
Fulfils contents tells input (Some (Escaped text)) old new status = WritesEscaped text (contents old) (contents new) status
Fulfils contents tells input (Some (Paths options limit pattern)) old new status =
    (walk_fault pattern ≢ None → IsRefused old new status)
    × ((c : Content) → IsTold tells c
    → IsFindStatus every (listing c options pattern) limit status
    × WritesFound line_feed every (listing c options pattern) limit (contents old) (contents new) status)
