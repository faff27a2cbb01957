-- The texts of paths that the calls of a file system are made with.
use Rattle.std.proofs.Common.{◌≡◌, ℕ, ◌+◌, ◌≤◌, List, ◌++◌, length, ap, ◌∙◌, arith}
use Rattle.std.specs.List.{slice_index}
use Rattle.std.specs.Str.{IsUtf8}
use Rattle.std.specs.String.Boundary.{IsSplitPoint}
use Rattle.std.proofs.lemmas.List.{length-append, get_or-append-add}
use Rattle.std.proofs.lemmas.Str.{IsCharBoundary-start}

-- An appended text can be cut off again.
pub split_at_seam : (bs xs ys : List ℕ) (n : ℕ) → bs ≡ xs ++ ys → n ≡ length xs → IsUtf8 ys → IsSplitPoint bs n
split_at_seam bs xs ys n both at utf8 =
    let long : length bs ≡ length xs + length ys = ap length both ∙ length-append xs ys in
    let place : n ≡ length xs + 0 = omega (arith, at) in
    let first : slice_index bs n ≡ slice_index ys 0 = (λ i. slice_index (both i) (place i)) ∙ get_or-append-add xs ys 0 0 in
    let inside : n ≤ length bs = omega (arith, at, long) in (
      inside,
      λ _ before high. omega (
        arith,
        first,
        (IsCharBoundary-start ys utf8).1 (omega (arith, at, long, before))
            (omega (arith, first, high)),
      ),
    )
