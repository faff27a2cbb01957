-- The message of a fault belongs to its number.
use Rattle.std.proofs.Common.{◌≡◌, ℕ, ◌≤◌, List, refl, sym, subst, ◌∙◌, arith}
use Rattle.std.specs.Prelude.{IsUtf8, chars}
use Rattle.glob_pattern.specs.Grammar.Faults.{IsFault, Refuses, kind_of, message_of, number_of}
use Rattle.glob_pattern.specs.declared.error.PatternErrorKind.{PatternErrorKind}
use Rattle.glob_pattern.specs.declared.error.PatternErrorKind.TheVariants.{Wildcards, Recursive, Range}
use Rattle.glob_pattern.specs.declared.error.PatternRefusal.{PatternRefusal}
use Rattle.glob_pattern.specs.declared.error.PatternRefusal.TheVariants as pattern
use Rattle.glob_pattern.proofs.CallerLemmas.{message_of_kind}
use Rattle.glob_c.specs.Answers.{kind_at}
use Rattle.glob_c.specs.Refusals.{RefusesBytes, refusal_of}

few : (kind : PatternErrorKind) → number_of kind ≤ 2
few Wildcards = omega arith
few Recursive = omega arith
few Range = omega arith

numbered : (kind : PatternErrorKind) → message_of (kind_at (number_of kind)) ≡ message_of kind
numbered Wildcards = refl
numbered Recursive = refl
numbered Range = refl

-- Bytes are refused in the same way as their text.
pub RefusesBytes-of : (bytes : List ℕ) → IsUtf8 bytes → (refused : PatternRefusal) → Refuses (chars bytes) refused
    → RefusesBytes bytes (refusal_of refused)
RefusesBytes-of bytes utf8 (pattern.Syntax e) fault = (
  utf8,
  subst (λ m. IsFault (chars bytes) (record { place = e.pos; message = m }))
      (sym (numbered (kind_of e.msg.now) ∙ message_of_kind (chars bytes) e fault)) fault,
  few _,
)
RefusesBytes-of bytes utf8 pattern.Memory fault = tt
