-- What a command line asks for. `None` is a usage fault.
use Rattle.std.specs.Prelude.{ℕ, ◌^◌, ◌-◌, List, [], ◌∷◌, Option, None, Some, if◌then◌else◌, codes, bytes_eq, option_map, option_and_then}
use Rattle.glob.specs.Matching.Options.{new_options}
use Rattle.glob.specs.Text.{Text}
use Rattle.glob.specs.Types.{MatchOptions}
use Rattle.glob_console.specs.Words.{is_match_option, is_option, limit_of, with_option}
use Rattle.glob_run.specs.Requests.{Request, Lines, Escaped, Paths}

-- the only word after the options
abbrev pub operand_of : List Text → Option Text
operand_of [] = None
operand_of (word ∷ []) = if is_option word then None else Some word
operand_of (dashes ∷ word ∷ []) = if bytes_eq dashes (codes "--") then Some word else None
operand_of (a ∷ b ∷ c ∷ more) = None

-- the words after `match`, under the options that were set before them
abbrev pub lines_request : MatchOptions → List Text → Option Request
lines_request options [] = None
lines_request options (word ∷ words) =
    if is_match_option options word then lines_request (with_option word options) words
    else option_map (Lines options) (operand_of (word ∷ words))

-- The words after `find`, under the options and the limit that were set before them. `-n` takes the word after it.
abbrev pub paths_request : MatchOptions → (limit : ℕ) → List Text → Option Request
paths_request options limit [] = None
paths_request options limit (word ∷ []) = option_map (Paths options limit) (operand_of (word ∷ []))
paths_request options limit (word ∷ next ∷ words) =
    if bytes_eq word (codes "-n") then option_and_then (λ most. paths_request options most words) (limit_of next)
    else (if is_match_option options word then paths_request (with_option word options) limit (next ∷ words)
    else option_map (Paths options limit) (operand_of (word ∷ next ∷ words)))

-- the words after the program's name
unfoldable pub request_asked : List Text → Option Request
request_asked [] = None
request_asked (name ∷ words) =
    if bytes_eq name (codes "match") then lines_request new_options words
    else (if bytes_eq name (codes "escape") then option_map Escaped (operand_of words)
    else (if bytes_eq name (codes "find") then paths_request new_options (2 ^ 64 - 1) words else None))
