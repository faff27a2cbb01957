-- What was written at a fault.
use Rattle.std.proofs.Common.{◌≡◌, ℕ, Option, List, arith}
use Rattle.glob.specs.Lines.{FiltersSomeBytes}
use Rattle.glob.specs.Text.{Text}
use Rattle.glob.specs.Types.{MatchOptions}
use Rattle.glob_run.specs.Outcomes.{CopiesLines}

-- the first bytes of the lines that match were written
pub CopiesLines-some : (o : MatchOptions) (pattern : Text) (input old new : Option (List ℕ)) (status : ℕ) → status ≡ 2
    → FiltersSomeBytes o pattern input old new → CopiesLines o pattern input old new status
unfolding CopiesLines
CopiesLines-some o pattern input old new status is some =
    (λ none. absurd (omega (arith, is, none)), λ none. absurd (omega (arith, is, none)), λ _. some)
