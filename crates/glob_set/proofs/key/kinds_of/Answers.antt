use Rattle.std.proofs.Common.{ℕ, ◌<◌, get_or, length, List, Option, None, IfSome, arith, below_more}
use Rattle.glob_set.specs.declared.key.Key.{Key}
use Rattle.glob_set.specs.declared.key.Kinds.{Kinds}
use Rattle.glob_set.specs.Private.Keys.{AreKinds, HasKind}
use Rattle.glob_set.proofs.KindLemmas.{kind_kept}
use Rattle.glob_set.proofs.key.kinds_of.Goals as goal

AreKinds-of : (keys : List (Option Key)) (kinds : Kinds) → ((k : ℕ) → k < length keys → IfSome (get_or keys k None)
    (HasKind kinds)) → AreKinds keys kinds
unfolding AreKinds
AreKinds-of keys kinds are = are

pub loop-key-preserved : goal.loop-key-preserved
loop-key-preserved c =
    let l = c.loop-key in
    let keys = c.args.keys.now in
    below_more (λ k. IfSome (get_or keys k None) (HasKind c.add.new.self)) l.key-index
    (λ k below. kind_kept l.kinds c.add.new.self (get_or keys k None) c.add.ensures.kept (l.invariant k below)) c.add.ensures.own

pub returns : goal.returns
returns c =
    let l = c.loop-key in
    AreKinds-of c.args.keys.now l.kinds (λ k below. l.invariant k (omega arith))
