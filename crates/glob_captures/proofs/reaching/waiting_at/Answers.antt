use Rattle.std.proofs.Common.{chars, ◌≡◌, ◌<◌, ◌≤◌, ◌↔◌, ◌++◌, false, length, get_or, take, drop, IsTrue, sym, ap, ◌∙◌, subst, arith}
use Rattle.std.specs.Prelude.{Contains}
use Rattle.std.proofs.lemmas.Bool.{false≢true}
use Rattle.std.proofs.lemmas.List.{get_or_default}
use Rattle.std.proofs.lemmas.List.Quantifiers.{all_pairs_push}
use Rattle.glob_pattern.specs.Computing.Tokens.{tokens_of}
use Rattle.glob_captures.specs.Reaching.{Waits}
use Rattle.glob_captures.proofs.FrontLemmas.{written_back, listed_push, listed_kept, listed_below}
use Rattle.glob_captures.proofs.reaching.waiting_at.Goals as goal
use Rattle.glob_captures.proofs.reaching.waiting_at.Goals.{then-index+in_ok-push, else-index}

pub loop-token-init : goal.loop-token-init
loop-token-init g c =
    let o = c.args.options in
    let tokens = tokens_of (chars c.args.pattern.now) in
    record {
      fronts = c.in_ok-whole.ensures o tokens;
      room = (c.in_ok-alive.ensures o tokens).many;
      waiting = λ n. ((λ h. absurd (omega (arith, h.1, ap length c.new-waiting.ensures.items))), (λ h. absurd (omega (arith, h.0))));
      ascending = λ i j d before below. absurd (omega (arith, below, ap length c.new-waiting.ensures.items));
    }

pub loop-token-preserved : goal.loop-token-preserved
loop-token-preserved g c =
    let o = c.args.options in
    let tokens = tokens_of (chars c.args.pattern.now) in
    let text = c.args.text.now in
    let inv = c.loop-token.invariant in
    let n = c.loop-token.token in
    let place = c.args.place in
    let fronts = c.step.ensures.fronts in
    let waits = c.step.ensures.waits in
    let whole_len : c.loop-token.whole.len ≡ length c.loop-token.whole.items = omega
    (arith, c.as_mut_slice.ensures.len, ap length c.as_mut_slice.ensures.value) in
    let alive_len : c.loop-token.alive.len ≡ length c.loop-token.alive.items = omega
    (arith, c.as_mut_slice-in-loop-token.ensures.len, ap length c.as_mut_slice-in-loop-token.ensures.value) in
    let whole : take c.loop-token.whole.len (c.step.new.whole ++ drop (length c.step.new.whole)
    c.loop-token.whole.items) ≡ c.step.new.whole =
    written_back c.loop-token.whole.items c.step.new.whole c.loop-token.whole.len (fronts.many ∙ sym inv.fronts.many) whole_len in
    let alive : take c.loop-token.alive.len (c.step.new.alive ++ drop (length c.step.new.alive)
    c.loop-token.alive.items) ≡ c.step.new.alive =
    written_back c.loop-token.alive.items c.step.new.alive c.loop-token.alive.len (waits.many ∙ sym inv.room) alive_len in
    let within : place ≤ length text = c.requires in
    let read : c.index.result.now ≡ get_or c.step.new.alive place false =
    c.index.ensures ∙ ap (λ xs. get_or xs place c.index.result.now) alive
    ∙ get_or_default c.step.new.alive place c.index.result.now false (omega (arith, waits.many)) in
    let here : IsTrue c.index.result.now ↔ Waits o tokens text n place = rw read (waits.wait place within) in
    record {
      fronts = rw whole fronts;
      room = rw alive waits.many;
      waiting =
          elim c.if-index.branch [
            | then-index+in_ok-push w ↦
                rw (w.waiting-is, w.in_ok-push.ensures.items)
                (listed_push (λ m. Waits o tokens text m place) c.loop-token.waiting.items n inv.waiting (here.0 w.if-index.true))
            | else-index w ↦
                rw w.waiting-is
                (listed_kept (λ m. Waits o tokens text m place) c.loop-token.waiting.items n inv.waiting
                (λ wait. false≢true (sym w.if-index.false ∙ here.1 wait)))
          ];
      ascending =
          elim c.if-index.branch [
            | then-index+in_ok-push w ↦
                rw (w.waiting-is, w.in_ok-push.ensures.items)
                (all_pairs_push (λ number later. number < later) c.loop-token.waiting.items n inv.ascending
                (listed_below _ c.loop-token.waiting.items n inv.waiting))
            | else-index w ↦ rw w.waiting-is inv.ascending
          ];
    }

pub returns-clause-waiting : goal.returns-clause-waiting
returns-clause-waiting g c =
    let o = c.args.options in
    let tokens = tokens_of (chars c.args.pattern.now) in
    let all : c.loop-token.token ≡ length tokens = omega arith in
    λ m. subst (λ n. Contains c.loop-token.waiting.items m ↔ ((m < n) × Waits o tokens c.args.text.now m c.args.place))
    all (c.loop-token.invariant.waiting m)
