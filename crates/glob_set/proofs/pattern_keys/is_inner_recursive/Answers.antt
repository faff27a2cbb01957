use Rattle.std.proofs.Common.{chars, sym, arith}
use Rattle.glob_pattern.specs.Computing.Tokens.{tokens_of}
use Rattle.glob_set.proofs.KeyLemmas.{IsInnerRecursive-of}
use Rattle.glob_set.proofs.pattern_keys.is_inner_recursive.Goals as goal

pub returns-in-Recursive : goal.returns-in-Recursive
returns-in-Recursive g c =
    λ _. IsInnerRecursive-of (chars c.args.pattern.now) (tokens_of (chars c.args.pattern.now)) c.args.token
    c.tokens_len.ensures.read (omega (arith, c.tokens_len.ensures.count)) (sym c.in-Recursive.ensures)
