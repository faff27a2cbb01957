use Rattle.std.proofs.Common.{arith}
use Rattle.std.proofs.lemmas.Grind.{common_steps}
use Rattle.glob_pattern.proofs.pattern.needle.Needle.add.Goals as goal

pub returns-then-is_ascii-clause-bytes : goal.returns-then-is_ascii-clause-bytes
returns-then-is_ascii-clause-bytes c = grind (arith, common_steps)

pub returns-clause-bytes : goal.returns-clause-bytes
returns-clause-bytes c = grind (arith, common_steps)
