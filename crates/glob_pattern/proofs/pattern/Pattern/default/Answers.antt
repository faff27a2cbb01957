use Rattle.std.proofs.Common.{[], refl}
use Rattle.std.proofs.lemmas.Str.{chars-nil}
use Rattle.glob_pattern.specs.Grammar.Units.{HasTokens}
use Rattle.glob_pattern.proofs.pattern.Pattern.default.Goals as goal

-- The empty text has no token.
HasTokens-nil : HasTokens [] []
HasTokens-nil = ([], refl, refl)

pub invariant_of-result : goal.invariant_of-result
invariant_of-result g c = rw (c.new.ensures.bytes, chars-nil, c.empty.ensures) HasTokens-nil
