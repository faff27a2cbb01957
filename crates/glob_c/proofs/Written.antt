-- The start of a buffer after a write.
use Rattle.std.proofs.Common.{◌≡◌, ℕ, List, ◌++◌, length, take, IsUtf8, sym, ap, ◌∙◌, subst}
use Rattle.std.proofs.Math.Seq.{take-append_seam}

-- Text that is written to the start of a buffer can be read there.
pub written_text : (text start rest : List ℕ) → start ≡ text → IsUtf8 text → IsUtf8 (take (length text) (start ++ rest))
written_text text start rest same valid =
    subst IsUtf8 (sym (ap (λ (xs : List ℕ). take (length text) (xs ++ rest)) same ∙ take-append_seam text rest)) valid
