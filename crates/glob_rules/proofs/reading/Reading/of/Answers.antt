use Rattle.std.proofs.Common.{◌≡◌, ℕ, ◌+◌, ◌-◌, ◌==◌, ◌≤◌, ◌∙◌, Bool, true, false, List, [], ◌∷◌, length, get_or, take}
use Rattle.std.proofs.Common.{drop, refl, ap, suc, arith}
use Rattle.std.proofs.lemmas.List.{take_rest}
use Rattle.glob_pattern.specs.Grammar.Characters.{close_bracket}
use Rattle.glob_rules.specs.Classes.{before_close}
use Rattle.glob_rules.specs.Readings.{Read, next_reading, reading_from}
use Rattle.glob_rules.proofs.reading.Reading.of.Goals as goal
use Rattle.glob_rules.proofs.reading.Reading.of.Goals.{in-empty, in-len1-up-ahead}

-- what was taken, without its first byte
tail_taken : (n c : ℕ) (cs : List ℕ) → drop 1 (take (1 + n) (c ∷ cs)) ≡ take n cs
tail_taken n c cs = let e : 1 + n ≡ suc n = omega arith in rw e refl

-- what is before the bracket that closes, after one byte
behind : (closes : Bool) (c : ℕ) (cs ahead : List ℕ) → (c == close_bracket) ≡ closes → 1 ≤ length ahead
    → ahead ≡ before_close (c ∷ cs) → drop 1 ahead ≡ before_close cs
behind true c cs ahead closes some is = absurd (omega (arith, some, ap length (rw closes at is)))
behind false c cs ahead closes some is = ap (drop 1) (rw closes at is) ∙ tail_taken _ c cs

-- what is ahead of the rest, where some of it was ahead before
ahead_more : (ahead rest : List ℕ) → 1 ≤ length rest → 1 ≤ length ahead → ahead ≡ before_close rest
    → take (length ahead - 1) (drop 1 ahead) ≡ before_close (take (length rest - 1) (drop 1 rest))
ahead_more ahead [] long some is = absurd (omega (arith, long))
ahead_more ahead (c ∷ cs) long some is = rw (take_rest (c ∷ cs) 1) (take_rest ahead 1 ∙ behind (c == close_bracket) c cs ahead refl some is)

-- one more byte is read
one_read : (r next : Read) (ahead rest : List ℕ) → 1 ≤ length rest → ahead ≡ before_close (take (length rest - 1) (drop 1 rest))
    → next ≡ next_reading r (get_or rest 0 0) ahead → reading_from next (take (length rest - 1) (drop 1 rest)) ≡ reading_from r rest
one_read r next ahead [] long is step = absurd (omega (arith, long))
one_read r next ahead (c ∷ cs) long is step =
    let tail = take_rest (c ∷ cs) 1 in
    rw tail (rw step (rw (rw tail at is) refl))

pub loop-rest-preserved : goal.loop-rest-preserved
loop-rest-preserved g c =
    let rest = c.loop-rest.rest.now in
    let ahead : c.if-ahead-lt1.ahead.now ≡ before_close (take (length rest - 1) (drop 1 rest)) =
    elim c.if-ahead-lt1.branch [
      | in-empty w ↦ rw w.ahead-is w.before_close-ahead-in-empty.ensures
      | in-len1-up-ahead w ↦ rw w.ahead-is (ahead_more _ _ c.in-len1-up.len_at_least w.in-len1-up-ahead.len_at_least
          c.loop-rest.invariant.ahead)
    ] in
    record {
      so_far = one_read _ _ _ _ c.in-len1-up.len_at_least ahead c.in_ok-advance.ensures ∙ c.loop-rest.invariant.so_far;
      ahead = ahead;
    }
