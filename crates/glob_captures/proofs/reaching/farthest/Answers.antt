use Rattle.std.proofs.Common.{chars, ℕ, ◌≡◌, ◌≢◌, ◌+◌, ◌≤◌, ◌⊎◌, ◌++◌, inl, inr, false, length, get_or, take, drop}
use Rattle.std.proofs.Common.{IsTrue, refl, sym, ap, ◌∙◌, subst, ⊎_elim, arith}
use Rattle.std.proofs.lemmas.Bool.{cases_eq}
use Rattle.glob_pattern.specs.Computing.Tokens.{tokens_of}
use Rattle.glob_captures.specs.Reaching.{TakeFront}
use Rattle.glob_captures.proofs.FrontLemmas.{TakeFront-none, written_back}
use Rattle.glob_captures.proofs.reaching.farthest.Goals as goal
use Rattle.glob_captures.proofs.reaching.farthest.Goals.{then-place-last, else-place-last}

pub loop-token-init : goal.loop-token-init
loop-token-init g c =
    let o = c.args.options in
    let tokens = tokens_of (chars c.args.pattern.now) in
    let text = c.args.text.now in
    record {
      within = omega arith;
      fronts = c.in_ok-whole.ensures o tokens;
      room = (c.in_ok-alive.ensures o tokens).many;
      taken = (0, omega arith, (TakeFront-none o tokens text 0).1 refl);
      last = λ n k low within front.
          let at : n ≡ 0 = omega arith in
          let start : k ≡ 0 = (TakeFront-none o tokens text k).0 (subst (λ m. TakeFront o tokens text m k) at front) in
          omega arith;
    }

pub loop-token-preserved : goal.loop-token-preserved
loop-token-preserved g c =
    let o = c.args.options in
    let tokens = tokens_of (chars c.args.pattern.now) in
    let text = c.args.text.now in
    let inv = c.loop-token.invariant in
    let n = c.loop-token.token in
    let fronts = c.step.ensures.fronts in
    let whole_len : c.loop-token.whole.len ≡ length c.loop-token.whole.items = omega
    (arith, c.as_mut_slice.ensures.len, ap length c.as_mut_slice.ensures.value) in
    let alive_len : c.loop-token.alive.len ≡ length c.loop-token.alive.items = omega
    (arith, c.as_mut_slice-in-loop-token.ensures.len, ap length c.as_mut_slice-in-loop-token.ensures.value) in
    let whole : take c.loop-token.whole.len (c.step.new.whole ++ drop (length c.step.new.whole)
    c.loop-token.whole.items) ≡ c.step.new.whole =
    written_back c.loop-token.whole.items c.step.new.whole c.loop-token.whole.len (fronts.many ∙ sym inv.fronts.many) whole_len in
    let alive : take c.loop-token.alive.len (c.step.new.alive ++ drop (length c.step.new.alive)
    c.loop-token.alive.items) ≡ c.step.new.alive =
    written_back c.loop-token.alive.items c.step.new.alive c.loop-token.alive.len (c.step.ensures.waits.many ∙ sym inv.room) alive_len in
    let read : c.as_slice.result.now ≡ c.step.new.whole = c.as_slice.ensures.value ∙ whole in
    let many : length c.as_slice.result.now ≡ length text + 1 = ap length read ∙ fronts.many in
    let last : ℕ = c.last_place-last.result in
    let low : last ≤ length text = omega (arith, c.last_place-last.ensures.within, many) in
    let far : (m k : ℕ) → m ≤ n + 1 → k ≤ length text → TakeFront o tokens text m k → (k ≤ last) ⊎ (k ≤ c.loop-token.place) =
    λ m k few within front. ⊎_elim
    (λ (e : m ≡ n + 1). inl (c.last_place-last.ensures.last k (omega (arith, many))
    (subst (λ places. IsTrue (get_or places k false)) (sym read) ((fronts.front k within).1
    (subst (λ j. TakeFront o tokens text j k) e front)))))
    (λ (other : m ≢ n + 1). inr (inv.last m k (omega arith) within front))
    (cases_eq m (n + 1)) in
    record {
      within = elim c.if-place-last.branch [
        | then-place-last w ↦ omega (arith, w.place-is, low)
        | else-place-last w ↦
            omega (arith, w.place-is, inv.within)
      ];
      fronts = rw whole fronts;
      room = rw alive c.step.ensures.waits.many;
      taken = elim c.if-place-last.branch [
        | then-place-last w ↦ (
          n + 1,
          omega arith,
          subst (TakeFront o tokens text (n + 1)) (sym w.place-is)
              ((fronts.front last low).0 (subst (λ places. IsTrue (get_or places last false)) read
              (c.last_place-last.ensures.here (omega (arith, w.if-place-last.true))))),
        )
        | else-place-last w ↦ (
          inv.taken.0,
          omega (arith, inv.taken.1),
          subst (TakeFront o tokens text inv.taken.0)
              (sym w.place-is) inv.taken.2,
        )
      ];
      last = λ m k few within front.
          elim c.if-place-last.branch [
            | then-place-last w ↦ ⊎_elim (λ h. omega (arith, h, w.place-is))
                (λ h. omega (arith, h, w.place-is, w.if-place-last.true)) (far m k few within front)
            | else-place-last w ↦ ⊎_elim (λ h. omega (arith, h, w.place-is, w.if-place-last.false))
                (λ h. omega (arith, h, w.place-is)) (far m k few within front)
          ];
    }
