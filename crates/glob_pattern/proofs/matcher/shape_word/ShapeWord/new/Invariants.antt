use Rattle.std.proofs.Common.{map}
use Rattle.glob_pattern.specs.Private.Positions.{HasShapes}
use Rattle.glob_pattern.proofs.matcher.shape_word.ShapeWord.new.Given as goal

abbrev pub invariant-loop-n : goal.invariant-loop-n
invariant-loop-n g l = HasShapes (map g.T.Shaped.shape l.tokens) l.start l.n l.word
