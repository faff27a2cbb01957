-- The tokens from the end on take a character each.
use Rattle.std.proofs.Common.{◌≡◌, ℕ, ◌-◌, ◌≤◌, List, length}
use denote.Shadow.{shadow}
use denote.Text.{Utf8}
use Rattle.std.specs.Str.{IsUtf8}
use Rattle.std.specs.Str.Iter.{chars_rest}
use Rattle.glob_pattern.specs.Grammar.Tokens.{Token}
use Rattle.glob_pattern.specs.Private.Parts.{Leaves}
use Rattle.glob_pattern.specs.declared.options.MatchOptions.{MatchOptions}
use Rattle.glob_pattern.specs.declared.pattern.ends.Ends.{Ends}
use Rattle.glob_pattern.specs.declared.pattern.ends.Part.{Part}
use Rattle.glob_pattern.proofs.pattern.ends.Ends.take_last.Given as goal

abbrev pub AreTaken : Ends → List Token → Part → MatchOptions → (end : ℕ) → (rest left : List ℕ) → Type 0
AreTaken ends tokens part options end rest left = record {
  same : left ≡ rest;
  low : length tokens - ends.trail ≤ end;
  within : end ≤ length tokens - ends.suffix.count;
  utf8 : IsUtf8 rest;
  taken : (text : List ℕ) → Leaves options tokens text ends.lead (length tokens - ends.suffix.count) part.text.now part.opening
      → Leaves options tokens text ends.lead end rest part.opening;
}

abbrev pub invariant-loop-end : goal.invariant-loop-end
invariant-loop-end g l = shadow (Utf8 l.text) × AreTaken l.self l.tokens l.part l.options l.end (chars_rest l.rest) l.text

abbrev pub decreases-loop-end : goal.decreases-loop-end
decreases-loop-end g l = l.end

abbrev pub invariant-loop-end-2 : goal.invariant-loop-end-2
invariant-loop-end-2 g l = shadow (Utf8 l.text) × AreTaken l.self l.tokens l.part l.options l.end (chars_rest l.rest) l.text

abbrev pub decreases-loop-end-2 : goal.decreases-loop-end-2
decreases-loop-end-2 g l = l.end
