use Rattle.std.proofs.Common.{◌≡◌, ◌*◌, ◌+◌, ◌∙◌, min, length, ap, arith}
use Rattle.glob_pattern.specs.Private.Classes.{partition_of, columns_of}
use Rattle.glob_pattern.specs.Private.CharMasks.{half_of}
use Rattle.glob_pattern.proofs.ClassLemmas.Rows.{row-within, written, half-few}
use Rattle.glob_pattern.proofs.pattern.char_masks.rows_of.Goals as goal

pub fill_rows-requires-clause-long : goal.fill_rows-requires-clause-long
fill_rows-requires-clause-long g c =
    let rows = 2 * c.args.words in
    let product : c.saturating_mul.result ≡ min (rows * c.count.result) 18446744073709551615 = c.saturating_mul.ensures in
    let columns : rows * c.count.result ≡ c.args.words * (2 * columns_of (partition_of c.args.classes)) =
    ap (λ k. rows * k) c.count.ensures ∙ omega arith in
    omega (
      arith,
      product,
      columns,
      c.as_mut_slice.ensures.len,
      c.in_ok-masks.ensures.len,
      c.in_ok-masks.masks.ok.0,
      c.in_ok-masks.masks.small,
    )

pub returns : goal.returns
returns g c = λ case.
    let p = partition_of c.args.classes in
    let rows = 2 * c.args.words in
    let masks = c.fill_rows.new.masks in
    let product : c.saturating_mul.result ≡ min (rows * c.count.result) 18446744073709551615 = c.saturating_mul.ensures in
    let columns : rows * c.count.result ≡ rows * columns_of p = ap (λ k. rows * k) c.count.ensures in
    let same : length masks ≡ length c.in_ok-masks.masks.items = omega (
      arith,
      c.fill_rows.ensures.long,
      c.as_mut_slice.ensures.len,
      c.in_ok-masks.masks.ok.0,
    ) in
    let long : length masks ≡ rows * columns_of p = omega (
      arith,
      product,
      columns,
      same,
      c.in_ok-masks.ensures.len,
      c.in_ok-masks.masks.ok.0,
      c.in_ok-masks.masks.small,
    ) in
    rw (written c.in_ok-masks.masks.len masks c.in_ok-masks.masks.items (omega (arith, same))
    (omega (arith, same, c.in_ok-masks.masks.ok.0))) (record {
      partition = c.requires.partition;
      within = λ word lt.
          let here = row-within (2 * word + half_of case) rows (columns_of p) (omega (arith, half-few case, lt)) in
          omega (arith, here, long);
      row = λ word lt. c.fill_rows.ensures.rows word case lt;
    })
