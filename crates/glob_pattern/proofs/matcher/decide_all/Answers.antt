-- All shapes, in one word or in several.
use Rattle.std.proofs.Common.{◌≡◌, ◌+◌, ◌*◌, ◌^◌, ◌<◌, ◌≤◌, ◌↔◌, ℕ, List, Bool, Result, IfOk, IsTrue, length, map, refl, arith}
use Rattle.std.proofs.lemmas.List.{length-map}
use Rattle.std.proofs.lemmas.Result.{IfOk-weaker}
use Rattle.glob_pattern.specs.Matching.Splits.{Table, Splits}
use Rattle.glob_pattern.specs.Private.Positions.{AreShapeWords, CanRun}
use Rattle.glob_pattern.specs.Private.Prefixes.{PrefixSplits}
use Rattle.glob_pattern.specs.declared.matcher.Shape.{Shape}
use Rattle.glob_pattern.specs.declared.matcher.shape_word.ShapeWord.{ShapeWord}
use Rattle.glob_pattern.proofs.BitLemmas.SetBits.{IsBitSet-zero}
use Rattle.glob_pattern.proofs.PositionLemmas.Prefixes.{Splits-iff_prefix}
use Rattle.glob_pattern.proofs.PositionLemmas.Running.{one-word}
use Rattle.glob_pattern.proofs.matcher.decide_all.Goals as goal

-- whether all shapes are whole at the end is whether they split the characters
Splits-answer : {E : Type 0} (table : Table) (shapes : List Shape) (end : ℕ) (r : Result Bool E) → end ≡ length shapes
    → IfOk r (λ yes. IsTrue yes ↔ PrefixSplits table shapes end table.characters)
    → IfOk r (λ yes. IsTrue yes ↔ Splits table shapes)
Splits-answer table shapes end r all answer =
    let split = Splits-iff_prefix table shapes in
    IfOk-weaker r _ _ (λ yes h. (λ t. split.1 (h.0 t), λ s. h.1 (split.0 s))) (rw all at answer)

-- a run over all shapes
CanRun-all : (table : Table) (shapes : List Shape) (words : List ShapeWord) (end k count : ℕ)
    → AreShapeWords shapes end words
    → end ≡ length shapes → end < 2 ^ 64 → length shapes ≤ table.tokens → k ≡ 0
    → count + length shapes * table.characters < 2 ^ 128
    → CanRun table shapes words (record { end = end; accepting = 0 }) k count
CanRun-all table shapes words end k count shaped all fits tokens place room = record {
  shaped = shaped;
  fits = fits;
  tokens = omega (arith, all, tokens);
  place = place;
  accepting = λ j set. absurd (IsBitSet-zero j set);
  room = rw all room;
}

pub decide-requires : goal.decide-requires
decide-requires g c =
    let shapes = map g.T.Shaped.shape c.args.tokens.now in
    let long = length-map c.args.tokens.now g.T.Shaped.shape in
    CanRun-all (g.J.Judge.table c.args.judge.now) shapes _ (length c.args.tokens.now) _ _
    (one-word shapes _ c.new.result (omega (arith, c.if-tokens-le-WORD.true)) (omega (arith, long)) c.new.ensures)
    (omega (arith, long)) (omega arith) (omega (arith, long, c.requires.tokens)) c.requires.start (rw long c.requires.room)

pub decide-requires-else-tokens-le-WORD : goal.decide-requires-else-tokens-le-WORD
decide-requires-else-tokens-le-WORD g c =
    let shapes = map g.T.Shaped.shape c.args.tokens.now in
    let long = length-map c.args.tokens.now g.T.Shaped.shape in
    CanRun-all (g.J.Judge.table c.args.judge.now) shapes _ (length c.args.tokens.now) _ _
    (rw c.as_slice.ensures.value c.in_ok-words.ensures)
    (omega (arith, long)) (omega arith) (omega (arith, long, c.requires.tokens)) c.requires.start (rw long c.requires.room)

pub returns-then-tokens-le-WORD-clause-answer : goal.returns-then-tokens-le-WORD-clause-answer
returns-then-tokens-le-WORD-clause-answer g c =
    Splits-answer (g.J.Judge.table c.args.judge.now) (map g.T.Shaped.shape c.args.tokens.now) _ c.decide.result
    (omega (arith, length-map c.args.tokens.now g.T.Shaped.shape))
    c.decide.ensures.answer

pub returns-in_ok-words-clause-answer : goal.returns-in_ok-words-clause-answer
returns-in_ok-words-clause-answer g c =
    let run = c.decide-else-tokens-le-WORD in
    Splits-answer (g.J.Judge.table c.args.judge.now) (map g.T.Shaped.shape c.args.tokens.now) _ run.result
    (omega (arith, length-map c.args.tokens.now g.T.Shaped.shape))
    run.ensures.answer

pub returns-then-tokens-le-WORD-clause-least : goal.returns-then-tokens-le-WORD-clause-least
returns-then-tokens-le-WORD-clause-least g c = IfOk-weaker c.decide.result _ _ (λ yes asks t. asks t refl) c.decide.ensures.least

pub returns-in_ok-words-clause-least : goal.returns-in_ok-words-clause-least
returns-in_ok-words-clause-least g c =
    let run = c.decide-else-tokens-le-WORD in
    IfOk-weaker run.result _ _ (λ yes asks t. asks t refl) run.ensures.least
