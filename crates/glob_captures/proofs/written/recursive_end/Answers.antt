use Rattle.std.proofs.Common.{arith}
use Rattle.std.proofs.lemmas.Bool.{both_ways}
use Rattle.glob_captures.proofs.WritingLemmas.{IsRead-start, IsRead-more, IsRead-end}
use Rattle.glob_captures.proofs.written.recursive_end.Goals as goal

pub loop-end-init : goal.loop-end-init
loop-end-init c = record {
  low = omega arith;
  high = c.requires;
  read = IsRead-start c.args.text.now c.args.place;
}

pub loop-end-preserved : goal.loop-end-preserved
loop-end-preserved c =
    let stars = c.has_stars.ensures.0 c.loop-end-test.true in
    record {
      low = omega (arith, c.loop-end.invariant.low, c.after_stars-end.ensures.low);
      high = c.after_stars-end.ensures.high;
      read = IsRead-more c.args.text.now c.args.place c.loop-end.end c.after_stars-end.result c.loop-end.invariant.read
          stars.0 stars.1 c.after_stars-end.ensures.after;
    }

pub returns-clause-end : goal.returns-clause-end
returns-clause-end c =
    IsRead-end c.args.text.now c.args.place c.loop-end.end c.loop-end.invariant.read
    (λ first second. both_ways _ c.loop-end-test.false (c.has_stars.ensures.1 (first, second)))
