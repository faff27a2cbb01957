use Rattle.std.proofs.Common.{arith}
use Rattle.glob_pattern.proofs.ClassLemmas.Ranks.{rank-le}
use Rattle.glob_pattern.proofs.pattern.classes.Classes.class.Goals as goal

pub overflow_add-result : goal.overflow_add-result
overflow_add-result c =
    let most = rank-le c.args.self.beyond.now c.args.c in
    omega (arith, most, c.begun_at.ensures, c.from-in-None-2.ensures)
