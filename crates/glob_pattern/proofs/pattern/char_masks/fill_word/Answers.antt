use Rattle.std.proofs.Common.{◌≡◌, ℕ, ◌*◌, ◌++◌, Bool, true, false, List, length, ap, ◌∙◌, arith}
use Rattle.std.proofs.lemmas.List.{get_or_append_left, get_or-append_right}
use Rattle.glob_pattern.specs.Private.Classes.{Partition, IsPartition, partition_of, columns_of}
use Rattle.glob_pattern.specs.Private.CharMasks.{mask_at, half_of, IsRow}
use Rattle.glob_pattern.proofs.MaskLemmas.Words.{IsRow-moved}
use Rattle.glob_pattern.proofs.pattern.char_masks.fill_word.Goals as goal

pub returns-clause-rows : goal.returns-clause-rows
returns-clause-rows g c =
    let p = partition_of c.args.classes in
    let plain = c.fill.new.plain in
    let folded = c.fill.new.folded in
    let long : length plain ≡ columns_of p = omega (arith, c.fill.auto.plain, c.split_at_mut-plain.ensures.front_len, c.count.ensures) in
    λ case. rows p c.requires.partition plain folded long c.fill.ensures.plain c.fill.ensures.folded case
  where
    rows : (p : Partition) → IsPartition p → (plain folded : List ℕ) → length plain ≡ columns_of p
        → IsRow c.args.tokens.now c.args.start p true plain 0 → IsRow c.args.tokens.now c.args.start p false folded 0
        → (case : Bool) → IsRow c.args.tokens.now c.args.start p case (plain ++ folded) (half_of case * columns_of p)
    rows p is plain folded long first second true = IsRow-moved _ _ p is true 0 _ plain _
        (λ r lt. get_or_append_left plain folded 0 _ (omega (arith, lt, long)) ∙ ap (mask_at plain) (omega arith)) first
    rows p is plain folded long first second false = IsRow-moved _ _ p is false 0 _ folded _
        (λ r lt. get_or-append_right plain folded (columns_of p) _ 0 long (omega arith) ∙ ap (mask_at folded) (omega arith)) second
