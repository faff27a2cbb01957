-- The classes of ASCII characters, numbered one after another: each cut raises them.
use Rattle.std.proofs.Common.{◌≡◌, ℕ, ◌+◌, ◌-◌, ◌<◌, ◌≤◌, Bool, List, length, get_or, set, ap, ◌∙◌, subst, ⊎_elim, arith}
use Rattle.std.proofs.lemmas.Bool.{cases_eq, cases_lt}
use Rattle.std.proofs.lemmas.List.{length-set, get_or-set_same, get_or-set_other}
use Rattle.glob_pattern.specs.Private.Classes.{AreNumbered, HasCut}

-- before any, all are in the first class
pub AreNumbered-none : (cuts : List Bool) (ascii : List ℕ) → length ascii ≡ 128 → ((c : ℕ) → c < 128 → get_or ascii c 0
    ≡ 2) → AreNumbered cuts 0 2 ascii
AreNumbered-none cuts ascii long all = record {
  classes = record {
    long = long;
    least = λ c lt. omega (arith, all c lt);
    order = λ c d le lt. absurd (omega arith);
    apart = λ c k d lt le dl cut. absurd (omega arith);
  };
  most = λ c lt. absurd (omega arith);
  least = omega arith;
  few = omega arith;
}

module _ (cuts : List Bool) (end last class : ℕ) (ascii : List ℕ) (are : AreNumbered cuts end last ascii)
    (within : end < 128) (up : last ≤ class) (step : class ≤ last + 1) (cut : HasCut cuts end → last < class) where
  before : (c : ℕ) → c < end → get_or (set ascii end class) c 0 ≡ get_or ascii c 0
  before c lt = get_or-set_other ascii end c class 0 (λ e. omega arith)

  here : (c : ℕ) → c ≡ end → get_or (set ascii end class) c 0 ≡ class
  here c e = ap (λ k. get_or (set ascii end class) k 0) e ∙ get_or-set_same ascii end class 0 (omega (arith, within, are.classes.long))

  most-more : (c : ℕ) → c < end + 1 → get_or (set ascii end class) c 0 ≤ class
  most-more c lt = ⊎_elim (λ cl. omega (arith, before c cl, are.most c cl, up)) (λ ce. omega (arith, here c (omega arith))) (cases_lt c end)

  -- one character more, in the same class or at a cut in the next
  pub AreNumbered-more : AreNumbered cuts (end + 1) class (set ascii end class)
  AreNumbered-more = record {
    classes = record {
      long = length-set ascii end class ∙ are.classes.long;
      least = λ c lt. ⊎_elim
          (λ e. omega (arith, here c e, up, are.least))
          (λ ne. let kept = get_or-set_other ascii end c class 0 (λ e. omega arith) in omega (arith, kept, are.classes.least c lt))
          (cases_eq c end);
      order = λ c d le lt. ⊎_elim
          (λ dl. omega (arith, before c (omega arith), before d dl, are.classes.order c d le dl))
          (λ de. let most = most-more c (omega arith) in omega (arith, here d (omega arith), most))
          (cases_lt d end);
      apart = λ c k d lt le dl cutting. ⊎_elim
          (λ less. omega (arith, before c (omega arith), before d less, are.classes.apart c k d lt le less cutting))
          (λ de.
          let kept = before c (omega arith) in
          let is = here d (omega arith) in
          ⊎_elim
          (λ kl. let rises = are.classes.apart c k (end - 1) lt (omega arith) (omega arith) cutting in omega
          (arith, kept, is, rises, are.most (end - 1) (omega arith), up))
          (λ ke. let rises = cut (subst (HasCut cuts) (omega arith) cutting) in omega (arith, kept, is, are.most c (omega arith), rises))
          (cases_lt k end))
          (cases_lt d end);
    };
    most = most-more;
    least = omega (arith, are.least, up);
    few = omega (arith, are.few, step);
  }
