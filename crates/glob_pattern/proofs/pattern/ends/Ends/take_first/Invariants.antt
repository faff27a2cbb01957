-- The tokens before the count take a character each.
use Rattle.std.proofs.Common.{ℕ, ◌-◌, ◌≤◌, Bool, List, length, take}
use Rattle.std.specs.Str.{IsUtf8}
use Rattle.std.specs.Str.Iter.{chars_rest}
use Rattle.glob_pattern.specs.Grammar.Tokens.{Token}
use Rattle.glob_pattern.specs.Private.Parts.{Leaves}
use Rattle.glob_pattern.specs.declared.options.MatchOptions.{MatchOptions}
use Rattle.glob_pattern.specs.declared.pattern.ends.Ends.{Ends}
use Rattle.glob_pattern.specs.declared.pattern.ends.Part.{Part}
use Rattle.glob_pattern.proofs.pattern.ends.Ends.take_first.Given as goal

abbrev pub AreTaken : Ends → List Token → Part → MatchOptions → (count : ℕ) → (rest : List ℕ) → (opening : Bool) → Type 0
AreTaken ends tokens part options count rest opening = record {
  low : ends.prefix.count ≤ count;
  within : count ≤ length (take ends.lead tokens);
  utf8 : IsUtf8 rest;
  taken : (text : List ℕ) → Leaves options tokens text ends.prefix.count (length tokens - ends.suffix.count) part.text.now part.opening
      → Leaves options tokens text count (length tokens - ends.suffix.count) rest opening;
}

abbrev pub invariant-loop-count : goal.invariant-loop-count
invariant-loop-count g l = AreTaken l.self l.tokens l.part l.options l.count (chars_rest l.rest) l.opening

abbrev pub decreases-loop-count : goal.decreases-loop-count
decreases-loop-count g l = length (take l.self.lead l.tokens) - l.count

abbrev pub invariant-loop-count-2 : goal.invariant-loop-count-2
invariant-loop-count-2 g l = AreTaken l.self l.tokens l.part l.options l.count (chars_rest l.rest) l.opening

abbrev pub decreases-loop-count-2 : goal.decreases-loop-count-2
decreases-loop-count-2 g l = length (take l.self.lead l.tokens) - l.count
