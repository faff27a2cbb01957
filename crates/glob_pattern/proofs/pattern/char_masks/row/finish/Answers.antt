use Rattle.std.proofs.Common.{◌≡◌, ◌<◌, ◌^◌, length, bit_and, bit_or, sym, arith}
use Rattle.std.specs.Int.{bit_not, w64}
use Rattle.glob_text.specs.Characters.{slash, dot}
use Rattle.glob_pattern.specs.Private.Classes.{partition_of, class_in}
use Rattle.glob_pattern.specs.Private.CharMasks.{mask_at}
use Rattle.glob_pattern.proofs.ClassLemmas.Separating.{class-bounds}
use Rattle.glob_pattern.proofs.MaskLemmas.Classes.{takes-listed, separator-listed, dot-listed}
use Rattle.glob_pattern.proofs.MaskLemmas.Words.{IsMask-same, IsMask-or, IsMask-without, IsMask-inverted, IsRow-from, stored_rules}
use Rattle.glob_pattern.proofs.pattern.char_masks.row.finish.Goals as goal

pub bounds-row-class : goal.bounds-row-class
bounds-row-class c =
    let bounds = class-bounds (partition_of c.args.classes) c.requires.partition slash in
    omega (arith, bounds.1, c.class.ensures, c.requires.long)

pub offset_bounds-row-class : goal.offset_bounds-row-class
offset_bounds-row-class c =
    let bounds = class-bounds (partition_of c.args.classes) c.requires.partition slash in
    omega (arith, bounds.1, c.class.ensures, c.requires.long)

pub bounds-row-class-2 : goal.bounds-row-class-2
bounds-row-class-2 c =
    let bounds = class-bounds (partition_of c.args.classes) c.requires.partition dot in
    omega (arith, bounds.1, c.class-2.ensures, c.requires.long)

pub offset_bounds-row-class-2 : goal.offset_bounds-row-class-2
offset_bounds-row-class-2 c =
    let bounds = class-bounds (partition_of c.args.classes) c.requires.partition dot in
    omega (arith, bounds.1, c.class-2.ensures, c.requires.long)

pub returns : goal.returns
returns c = λ tokens start end are all.
    let old = c.args.row.now in
    let kinds = c.args.kinds in
    let p = partition_of c.args.classes in
    let case = c.args.case_sensitive in
    let none = bit_not w64 kinds.brackets in
    let fits : kinds.brackets < 2 ^ 64 = omega arith in
    let long : length c.invert.new.row ≡ length old = omega arith in
    let (separator, dots, others) = stored_rules c.invert.new.row (bit_or (bit_and (mask_at old c.class.result) none)
    kinds.recursive) (bit_and (mask_at old c.class-2.result) none)
    (omega (arith, long, c.requires.long, c.requires.partition.least 127 (omega arith))) in
    IsRow-from tokens start end p case _
    (rw separator (IsMask-same tokens start end _ _ _ (separator-listed case)
    (IsMask-or tokens start end _ _ _ _ (IsMask-without tokens start end _ _ _ _ fits (rw c.class.ensures
    (are.listed slash)) are.brackets) are.recursive)))
    (rw dots (IsMask-same tokens start end _ _ _ (dot-listed case) (IsMask-without tokens start end _ _ _ _ fits
    (rw c.class-2.ensures (are.listed dot)) are.brackets)))
    (λ d.
    let bounds = class-bounds p c.requires.partition d in
    let r = class_in p d in
    rw (others r bounds.0, c.invert.ensures r (omega (arith, bounds.1, c.requires.long)))
    (IsMask-same tokens start end _ _ _ (λ t. sym (takes-listed case d t)) (IsMask-inverted tokens start end _ _ _ _
    (are.listed d) are.others)))
    all
