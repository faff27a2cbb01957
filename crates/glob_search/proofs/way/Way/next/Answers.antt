use Rattle.std.proofs.Common.{◌≡◌, ◌-◌, ◌+◌, ◌++◌, ◌∷◌, [], refl, sym, ap, ◌∙◌, arith}
use Rattle.std.specs.Prelude.{sum_by, vec_len}
use Rattle.std.proofs.lemmas.List.Sums.{sum_by-append}
use Rattle.glob_search.specs.Private.Weights.{frame_weight, opening_weight}
use Rattle.glob_search.proofs.EngineLemmas.Lasts.{cut, same-last}
use Rattle.glob_search.proofs.EngineLemmas.Passing.{no-items}
use Rattle.glob_search.proofs.way.Way.next.Goals as goal

pub returns-in-Some-next_file-clause-work : goal.returns-in-Some-next_file-clause-work
returns-in-Some-next_file-clause-work g c =
    let fs = c.args.self.now.frames in
    let k = cut fs.items (vec_len fs - 1) c.in_ok-frame.frame.now (omega (
      arith,
      c.in_ok-frame.ensures.variant.0 refl,
      fs.ok.0,
    )) c.in_ok-frame.ensures.value in
    record {
      last = c.in_ok-frame.frame.now;
      passed = c.next_file.new.self;
      goes = record {
        free = sym c.take.ensures.value ∙ c.in_default.is;
        still = c.take.ensures.after;
        front = k.front;
        before = k.whole;
        after = k.changed c.next_file.new.self;
      };
      next = c.in-Some-next_file.ensures.passes;
    }

pub returns-in-Some-pop-clause-work : goal.returns-in-Some-pop-clause-work
returns-in-Some-pop-clause-work g c =
    let fs = c.args.self.now.frames in
    let k = cut fs.items (vec_len fs - 1) c.in_ok-frame.frame.now (omega (
      arith,
      c.in_ok-frame.ensures.variant.0 refl,
      fs.ok.0,
    )) c.in_ok-frame.ensures.value in
    record {
      last = c.in_ok-frame.frame.now;
      passed = c.next_file.new.self;
      left = record c.next_file.new.self { entries = c.pop.new.self };
      goes = record {
        free = sym c.take.ensures.value ∙ c.in_default.is;
        still = c.take.ensures.after;
        front = k.front;
        before = k.whole;
        after = k.changed (record c.next_file.new.self { entries = c.pop.new.self });
      };
      next = c.in_default-next_file.ensures.passes;
      same = refl;
      entry = c.in-Some-pop.ensures.items;
    }

pub returns-clause-weight : goal.returns-clause-weight
returns-clause-weight g c =
    let fs = c.args.self.now.frames in
    let f = c.in_ok-frame.frame.now in
    let k = cut fs.items (vec_len fs - 1) f (omega (arith, c.in_ok-frame.ensures.variant.0 refl, fs.ok.0)) c.in_ok-frame.ensures.value in
    let popped = same-last k.front c.pop-2.new.self.items (record c.next_file.new.self { entries = c.pop.new.self }) c.in_ok-frame-2.frame
    (sym (k.changed (record c.next_file.new.self { entries = c.pop.new.self })) ∙ c.in_ok-frame-2.ensures.items) in
    let free : opening_weight c.args.self.now.entering ≡ 0 = ap opening_weight (sym c.take.ensures.value ∙ c.in_default.is) in
    let still : opening_weight c.take.new.self ≡ 0 = ap opening_weight c.take.ensures.after in
    let none : vec_len f.entries ≡ 0 = ap (λ v. vec_len v) (sym c.next_file.ensures.entries) ∙ c.in_default-pop.ensures.cases.0 in
    let sums : sum_by frame_weight fs.items ≡ sum_by frame_weight c.pop-2.new.self.items + frame_weight f =
    ap (sum_by frame_weight) (k.whole ∙ ap (λ gs. gs ++ f ∷ []) popped.0) ∙ sum_by-append frame_weight
    c.pop-2.new.self.items (f ∷ []) ∙ omega arith in
    omega (arith, free, still, none, sums)

pub returns-clause-work : goal.returns-clause-work
returns-clause-work g c =
    let fs = c.args.self.now.frames in
    let f = c.in_ok-frame.frame.now in
    let k = cut fs.items (vec_len fs - 1) f (omega (arith, c.in_ok-frame.ensures.variant.0 refl, fs.ok.0)) c.in_ok-frame.ensures.value in
    let popped = same-last k.front c.pop-2.new.self.items (record c.next_file.new.self { entries = c.pop.new.self }) c.in_ok-frame-2.frame
    (sym (k.changed (record c.next_file.new.self { entries = c.pop.new.self })) ∙ c.in_ok-frame-2.ensures.items) in
    record {
      last = f;
      passed = c.next_file.new.self;
      free = sym c.take.ensures.value ∙ c.in_default.is;
      still = c.take.ensures.after;
      before = k.whole ∙ ap (λ gs. gs ++ f ∷ []) popped.0;
      next = c.in_default-next_file.ensures.passes;
      none = no-items f.entries (ap (λ v. vec_len v) (sym c.next_file.ensures.entries) ∙ c.in_default-pop.ensures.cases.0);
      active = ap (λ h. h.active) (sym popped.1) ∙ ap (λ h. h.active) c.in_default-next_file.ensures.passes.0.same;
    }
