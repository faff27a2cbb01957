use Rattle.std.proofs.Common.{All, arith, subst, sym}
use Rattle.std.proofs.lemmas.List.Elements.{All-push}
use Rattle.glob_set.specs.Private.Pairs.{HasSmallClass}
use Rattle.glob_set.proofs.NeedLists.{needs_more, length_more, needs_end}
use Rattle.glob_set.proofs.needs.needs_of.Goals as goal

pub loop-pattern-preserved : goal.loop-pattern-preserved
loop-pattern-preserved g c =
    let l = c.loop-pattern in
    record {
      as_many = length_more l.needs.items c.push.new.self.items c.need_of.result l.pattern-index l.invariant.as_many
          c.in_ok-push.ensures.items;
      each = needs_more c.args.patterns.now l.needs.items c.push.new.self.items l.pattern-index c.pattern-item.result c.need_of.result
          l.invariant.each l.invariant.as_many (omega arith) c.pattern-item.is c.need_of.ensures.need c.in_ok-push.ensures.items;
      small = subst (All HasSmallClass) (sym c.in_ok-push.ensures.items) (All-push HasSmallClass l.needs.items
          c.need_of.result l.invariant.small c.need_of.ensures.small);
    }

pub returns-clause-needs : goal.returns-clause-needs
returns-clause-needs g c =
    let l = c.loop-pattern in
    needs_end c.args.patterns.now l.needs.items l.pattern-index l.invariant.as_many (omega arith) l.invariant.each
