-- Running the automaton over a part of a text: what a run needs, and when it needs no questions.
use Rattle.std.proofs.Common.{◌≡◌, ℕ, ◌^◌, ◌<◌, ◌+◌, ◌*◌, Bool, List, length, map, take, chars, refl, inl, arith}
use Rattle.std.proofs.lemmas.List.{length-map, length-take-le}
use Rattle.std.specs.Int.{IsBitSet}
use Rattle.glob_text.specs.Text.{Text}
use Rattle.glob_pattern.specs.Grammar.Tokens.{Token, shape_of}
use Rattle.glob_pattern.specs.Private.Parts.{SplitsPart}
use Rattle.glob_pattern.specs.Private.Positions.{AreShapeWords, TakesRest, CanRun, word_before}
use Rattle.glob_pattern.specs.Private.Prefixes.{PrefixSplits, IsAlive}
use Rattle.glob_pattern.specs.Private.TextTable.{table_within}
use Rattle.glob_pattern.specs.declared.matcher.positions.Span.{Span}
use Rattle.glob_pattern.specs.declared.matcher.shape_word.ShapeWord.{ShapeWord}
use Rattle.glob_pattern.specs.declared.options.MatchOptions.{MatchOptions}
use Rattle.glob_pattern.proofs.Counts.{length-chars, product_fits}
use Rattle.glob_pattern.proofs.MatchingLemmas.Parts.{SplitsPart-asked}
use Rattle.glob_pattern.proofs.MatchingLemmas.Splits.{TakesAll-none}
use Rattle.glob_pattern.proofs.PositionLemmas.Running.{whole-by_rest}

-- a run over the first tokens and a part of a text
pub CanRun-part : (opening : Bool) (o : MatchOptions) (tokens : List Token) (bytes : List ℕ) (words : List ShapeWord)
    (span : Span) (k count : ℕ)
    → AreShapeWords (map shape_of tokens) span.end words
    → ((j : ℕ) → IsBitSet span.accepting j → TakesRest (table_within opening o (take span.end tokens) (chars bytes))
    (map shape_of tokens) span.end (63 * word_before span.end + j))
    → k ≡ 0 → count ≡ 0 → span.end < 2 ^ 64 → length bytes < 2 ^ 64
    → CanRun (table_within opening o (take span.end tokens) (chars bytes)) (map shape_of tokens) words span k count
unfolding table_within
CanRun-part opening o tokens bytes words span k count shaped accepting place none few short =
    let fits = product_fits span.end (length (chars bytes)) few (omega (arith, length-chars bytes, short)) in
    record {
      shaped = shaped;
      fits = few;
      tokens = omega (arith, length-take-le span.end tokens (omega (arith, shaped.within, length-map tokens shape_of)));
      place = place;
      accepting = accepting;
      room = omega (arith, none, fits);
    }

-- if the only token takes everything, no question is needed
pub SplitsPart-at_once : (opening : Bool) (o : MatchOptions) (tokens : List Token) (end n : ℕ) (part : Text) → end ≡ 1
    → TakesRest (table_within opening o (take end tokens) part) (map shape_of tokens) end n → SplitsPart o opening tokens end part
unfolding PrefixSplits IsAlive table_within
SplitsPart-at_once opening o tokens end n part one rest =
    let first : n ≡ 0 = omega (arith, one, rest.free.last) in
    let table = table_within opening o (take end tokens) part in
    (SplitsPart-asked o opening tokens end part).0 (whole-by_rest table (map shape_of tokens) end 0 0 (rw first at rest) (omega arith)
    (0, omega arith, refl, TakesAll-none table 0 0, inl refl))
