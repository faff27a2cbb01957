-- The characters of an interval are exactly those with a class from that of its first to that of its last.
use Rattle.std.proofs.Common.{◌≡◌, ℕ, ◌+◌, ◌<◌, ◌≤◌, nat_le, List, length, replicate, get_or, refl, sym, ⊎_elim, arith}
use Rattle.std.specs.List.{Contains}
use Rattle.std.specs.List.Sorted.{IsNonDecreasing}
use Rattle.std.proofs.lemmas.Bool.{lt-ltb, le-ltb, le-leb, lt-leb, cases_lt}
use Rattle.std.proofs.lemmas.List.{get_or-replicate}
use Rattle.std.proofs.Math.Bool.{and-false}
use Rattle.glob_pattern.specs.Private.CharMasks.{no_partition}
use Rattle.glob_pattern.specs.Private.Classes.{Partition, IsPartition, AreCounts, AreAsciiClasses, HasInterval, HasCut}
use Rattle.glob_pattern.specs.Private.Classes.{Separates, highest, class_in, columns_of}
use Rattle.glob_pattern.specs.declared.pattern.classes.Boundaries.{Boundaries}
use Rattle.glob_pattern.proofs.ClassLemmas.Ranks.{rank, rank-le, rank-mono, rank-strict}

-- where all characters are of one class
pub one-class : IsPartition no_partition
one-class =
    let each : (c : ℕ) → c < 128 → get_or (replicate 128 2) c 0 ≡ 2 = λ c lt. get_or-replicate {A = ℕ} 128 c 2 0 lt in
    record {
      long = refl;
      least = λ c lt. omega (arith, each c lt);
      most = λ c lt. omega (arith, each c lt, each 127 (omega arith));
      rising = λ i j d le lt. absurd (omega arith);
      counts = λ i lt. absurd (omega arith);
    }

module _ (p : Partition) where
  -- the class of an ASCII character, and of any other
  pub class-ascii : (c : ℕ) → c < length p.ascii → class_in p c ≡ get_or p.ascii c 0
  class-ascii c lt = rw (lt-ltb c (length p.ascii) lt) refl

  pub class-beyond : (c : ℕ) → length p.ascii ≤ c → class_in p c ≡ highest p + rank p.beyond c
  class-beyond c le = rw (le-ltb c (length p.ascii) le) refl

  -- each class is one of the columns, after those of the rules
  pub class-bounds : IsPartition p → (c : ℕ) → (2 ≤ class_in p c) × (class_in p c < columns_of p)
  class-bounds is c =
      ⊎_elim
      (λ lt. let e = class-ascii c (omega (arith, lt, is.long)) in (omega (arith, e, is.least c lt), omega (arith, e, is.most c lt)))
      (λ le.
      let e = class-beyond c (omega (arith, le, is.long)) in
      let least = is.least 127 (omega arith) in
      (omega (arith, e, least), omega (arith, e, rank-le p.beyond c)))
      (cases_lt c 128)

module _ {A : Type 0} (b : Boundaries A) (ascii : List ℕ) (are : AreAsciiClasses b.ascii 128 ascii)
    (up : IsNonDecreasing b.beyond.items) (begun : List ℕ) (counts : AreCounts b.beyond.items begun) where
  abbrev p : Partition
  p = record { ascii = ascii; beyond = b.beyond.items; begun = begun }

  pub partition : IsPartition p
  partition = record {
    long = are.long;
    least = are.least;
    most = λ c lt. are.order c 127 (omega (arith, lt))
        (omega arith);
    rising = up;
    counts = counts;
  }

  abbrev class : ℕ → ℕ
  class c = class_in p c

  low : (c : ℕ) → c < 128 → class c ≡ get_or ascii c 0
  low c lt = class-ascii p c (omega (arith, lt, are.long))

  high : (c : ℕ) → 128 ≤ c → class c ≡ get_or ascii 127 0 + rank p.beyond c
  high c le = class-beyond p c (omega (arith, le, are.long))

  -- classes never fall
  class-order : (c d : ℕ) → c ≤ d → class c ≤ class d
  class-order c d le =
      ⊎_elim
      (λ dl. let cl : c < 128 = omega (arith, le, dl) in omega (arith, low c cl, low d dl, are.order c d le dl))
      (λ dh. ⊎_elim
      (λ cl. let last = are.order c 127 (omega (arith, cl)) (omega arith) in omega (arith, low c cl, high d dh, last))
      (λ ch. omega (arith, high c ch, high d dh, rank-mono p.beyond c d le))
      (cases_lt c 128))
      (cases_lt d 128)

  -- classes rise at each boundary
  class-apart : (c m d : ℕ) → c < m → m ≤ d → (m < 128 → HasCut b.ascii m) → (128 ≤ m → Contains b.beyond.items m) → class c < class d
  class-apart c m d lt le cut begins =
      ⊎_elim
      (λ dl. let cl : c < 128 = omega (arith, lt, le, dl) in let rises = are.apart c m d lt le dl
      (cut (omega (arith, le, dl))) in omega (arith, low c cl, low d dl, rises))
      (λ dh. ⊎_elim
      (λ cl. ⊎_elim
      (λ ml. let rises = are.apart c m 127 lt (omega (arith, ml)) (omega arith) (cut ml) in omega (arith, low c cl, high d dh, rises))
      (λ mh.
      let last = are.order c 127 (omega (arith, cl)) (omega arith) in
      omega (arith, low c cl, high d dh, last, rank-strict p.beyond up c m d lt le (begins mh)))
      (cases_lt m 128))
      (λ ch. omega (arith, high c ch, high d dh, rank-strict p.beyond up c m d lt le (begins (omega (arith, ch, lt)))))
      (cases_lt c 128))
      (cases_lt d 128)

  pub separates : (x y : ℕ) → x ≤ y → HasInterval b x y → Separates p x y
  separates x y rises has c =
      ⊎_elim
      (λ before.
      let less = class-apart c x x before (omega arith) has.first has.first_beyond in
      rw (lt-leb (class x) (class c) less, lt-leb x c before) refl)
      (λ from. ⊎_elim
      (λ past.
      let more = class-apart y (y + 1) c (omega arith) (omega (arith, past)) has.after has.after_beyond in
      rw (lt-leb (class c) (class y) more, and-false (nat_le (class x) (class c)), lt-leb c y past) (sym (and-false (nat_le x c))))
      (λ to. rw (
        le-leb (class x) (class c) (class-order x c from),
        le-leb (class c) (class y) (class-order c y to),
        le-leb x c from,
        le-leb c y to,
      ) refl)
      (cases_lt y c))
      (cases_lt c x)
