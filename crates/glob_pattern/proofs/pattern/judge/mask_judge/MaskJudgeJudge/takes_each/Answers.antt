use Rattle.std.proofs.Common.{◌≡◌, ◌+◌, ◌*◌, ◌<◌, ◌==◌, refl, arith}
use Rattle.glob_text.specs.Characters.{slash}
use Rattle.glob_pattern.specs.Private.TextTable.{table_within}
use Rattle.glob_pattern.specs.Private.Classes.{partition_of}
use Rattle.glob_pattern.proofs.MaskLemmas.Classes.{class-below}
use Rattle.glob_pattern.proofs.BitLemmas.LowestBits.{lowest_set}
use Rattle.glob_pattern.proofs.BitLemmas.SetBits.{IsBitSet-zero, IsBitSet-and}
use Rattle.glob_pattern.proofs.pattern.judge.mask_judge.MaskJudgeJudge.takes_each.Goals as goal

pub taking-requires : goal.taking-requires
unfolding table_within
taking-requires g c =
    let mask = c.args.self.now in
    let lowest = lowest_set c.args.asked (omega arith) (omega arith) in
    let at = c.requires.tokens _ lowest.1 in
    let word : c.args.word < mask.words = omega (arith, at.2, mask.enough) in
    let even : 2 * c.args.word + 0 ≡ 2 * c.args.word = omega arith in
    record {
      row = rw mask.masked.columns (rw even at (mask.masked.are.within c.args.word word));
      class = rw (mask.classed c.requires.stepped, mask.masked.columns) (class-below mask.judge.options
          (mask.judge.before == slash) (partition_of mask.rows.classes) mask.masked.are.partition mask.judge.current);
    }

pub returns-then-asked-eq0-clause-took : goal.returns-then-asked-eq0-clause-took
unfolding table_within
returns-then-asked-eq0-clause-took g c = λ j lt. (
  λ s. absurd (IsBitSet-zero j s),
  λ h. absurd (IsBitSet-zero j
      (rw c.if-asked-eq0.true at h.0)),
)

pub returns-clause-took : goal.returns-clause-took
unfolding table_within
returns-clause-took g c = λ j lt.
    let mask = c.args.self.now in
    let judge = mask.judge in
    let stepped = judge.stepped in
    let both = IsBitSet-and c.args.asked c.taking.result j in
    let even : 2 * c.args.word + 0 ≡ 2 * c.args.word = omega arith in
    rw (← (stepped.last c.requires.stepped), ← (stepped.before c.requires.stepped)) (
      λ s.
          let (a, m) = both.0 s in
          let at = c.requires.tokens j a in
          let row = rw even at (mask.masked.are.row c.args.word (omega (arith, at.2, mask.enough))) in (
            a,
            ((row.takes judge.options (judge.before == slash) judge.current j refl at.0).0
                (rw (c.taking.ensures, mask.classed c.requires.stepped, mask.masked.columns) at m)).1,
          ),
      λ (a, t).
          let at = c.requires.tokens j a in
          let row = rw even at (mask.masked.are.row c.args.word (omega (arith, at.2, mask.enough))) in
          both.1 (
            a,
            rw (c.taking.ensures, mask.classed c.requires.stepped, mask.masked.columns)
                ((row.takes judge.options (judge.before == slash) judge.current j refl at.0).1 (at.2, t)),
          ),
    )
