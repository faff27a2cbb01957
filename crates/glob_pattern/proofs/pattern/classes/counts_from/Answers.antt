use Rattle.std.proofs.Common.{◌≡◌, ℕ, ◌+◌, ◌<◌, ◌≤◌, nat_le, List, length, get_or, refl, sym, ◌∙◌, ⊎_elim, arith}
use Rattle.std.proofs.lemmas.Bool.{le-leb, lt-leb, cases_lt}
use Rattle.std.proofs.lemmas.List.Sums.{prefix_len_is}
use Rattle.glob_pattern.proofs.ClassLemmas.Ranks.{rank}
use Rattle.glob_pattern.proofs.pattern.classes.counts_from.Goals as goal

-- up to a character from each of the first n boundaries on, but before the next one, there are n
rank-is : (xs : List ℕ) (n c : ℕ) → n ≤ length xs → ((k : ℕ) → k < n → get_or xs k 0 ≤ c) → (n < length xs → c < get_or xs n 0)
    → rank xs c ≡ n
rank-is xs n c within least most = prefix_len_is (λ first. nat_le first c) xs n 0 within (λ k lt. le-leb _ _ (least k lt))
    (λ lt. lt-leb _ _ (most lt))

pub loop-n-preserved : goal.loop-n-preserved
loop-n-preserved g c =
    let xs = c.args.boundaries.now in
    let n = c.loop-n.n in
    let old = c.loop-n.counts in
    let (kept, added) = c.in_ok-resize.ensures.by_index in
    let here : c.args.base ≤ get_or xs n 0 = c.requires.base n c.loop-n-test.true in
    let long : length c.resize.new.self.items ≡ c.min.result = omega (arith, c.in_ok-resize.ensures.len) in
    record {
      passed = λ k lt short.
          let order = c.requires.rising k n 0 (omega (arith, lt)) c.loop-n-test.true in
          omega (arith, order, here, long, short, c.min.ensures);
      counts = λ j lt. ⊎_elim
          (λ below. kept j 0 (omega (arith, lt, long)) (omega (arith, below, old.ok.0)) ∙ c.loop-n.invariant.counts j below)
          (λ from.
          let end : j < c.min.result = omega (arith, lt, long) in
          added j 0 refl (omega (arith, from, old.ok.0)) end
          ∙ sym (rank-is xs n (c.args.base + j) (omega (arith, c.loop-n-test.true))
          (λ k less. let up = c.loop-n.invariant.passed k less (omega (arith, from, end, c.min.ensures)) in omega (arith, up, from))
          (λ _. omega (arith, here, end, c.min.ensures))))
          (cases_lt j (length old.items));
    }

pub returns : goal.returns
returns g c =
    let xs = c.args.boundaries.now in
    let old = c.loop-n.counts in
    let (kept, added) = c.in_ok-resize-2.ensures.by_index in
    let long : length c.resize-2.new.self.items ≡ 128 = omega (arith, c.in_ok-resize-2.ensures.len) in
    λ j lt. ⊎_elim
    (λ below. kept j 0 (omega (arith, lt, long)) (omega (arith, below, old.ok.0)) ∙ c.loop-n.invariant.counts j below)
    (λ from.
    added j 0 refl (omega (arith, from, old.ok.0)) (omega (arith, lt, long))
    ∙ sym (rank-is xs (length xs) (c.args.base + j) (omega arith)
    (λ k less. let up = c.loop-n.invariant.passed k (omega (arith, less, c.loop-n-test.false)) (omega (arith, from, lt, long)) in
    omega (arith, up, from))
    (λ less. absurd (omega (arith, less)))))
    (cases_lt j (length old.items))
