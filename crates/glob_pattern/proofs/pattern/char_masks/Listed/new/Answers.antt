use Rattle.glob_pattern.specs.Private.Classes.{Partition, HasInterval, Separates}
use Rattle.glob_pattern.proofs.ClassLemmas.Intervals.{EachInterval-map}
use Rattle.glob_pattern.proofs.ClassLemmas.Separating.{partition, separates}
use Rattle.glob_pattern.proofs.pattern.char_masks.Listed.new.Goals as goal

pub rows_of-requires-clause-partition : goal.rows_of-requires-clause-partition
rows_of-requires-clause-partition g c =
    rw (c.as_slice-2.ensures.value, c.as_slice-3.ensures.value) (partition c.in_ok-boundaries.boundaries _
    c.ascii_classes-ascii.ensures c.in_ok-boundaries.ensures.order _ (rw c.as_slice.ensures.value at
    c.in_ok-begun.ensures))

pub rows_of-requires-clause-apart : goal.rows_of-requires-clause-apart
rows_of-requires-clause-apart g c =
    let b = c.in_ok-boundaries.boundaries in
    let ascii = c.ascii_classes-ascii in
    let p : Partition = record { ascii = ascii.result; beyond = b.beyond.items; begun = c.in_ok-begun.begun.items } in
    rw (c.as_slice-2.ensures.value, c.as_slice-3.ensures.value)
    (EachInterval-map (HasInterval b) (Separates p) (λ x y le has. separates b _ ascii.ensures
    c.in_ok-boundaries.ensures.order c.in_ok-begun.begun.items (rw c.as_slice.ensures.value at
    c.in_ok-begun.ensures) x y le has) c.args.tokens.now c.in_ok-boundaries.ensures.marked)

pub returns : goal.returns
returns g c = λ case. rw (c.as_slice-2.ensures.value, c.as_slice-3.ensures.value) at (c.in_ok-masks.ensures case)
