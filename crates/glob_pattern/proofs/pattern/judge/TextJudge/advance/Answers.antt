use Rattle.std.proofs.Common.{refl, sym, subst, arith}
use Rattle.std.proofs.lemmas.Bool.{false≢true}
use Rattle.std.proofs.lemmas.Str.{chars_past_char}
use Rattle.std.specs.Str.{IsUtf8}
use Rattle.std.specs.Str.Iter.{chars_rest}
use Rattle.glob_pattern.proofs.Counts.{length-chars}
use Rattle.glob_pattern.proofs.MatchingLemmas.Stepping.{IsSteppedTo-step, place_before-step}
use Rattle.glob_pattern.proofs.pattern.judge.TextJudge.advance.Goals as goal

pub invariant_of-self-2 : goal.invariant_of-self-2
invariant_of-self-2 g c =
    let e = chars_past_char (chars_rest c.args.self.now.rest) (chars_rest c.next.new.self) c.in-Some.c
    (subst IsUtf8 c.as_str-left.ensures c.as_str-left.utf8) c.in-Some.ensures.steps.0 in
    record { stepped = IsSteppedTo-step _ _ _ _ _ _ _ (rw e at c.args.self.now.stepped) }

pub returns-clause-stepped : goal.returns-clause-stepped
returns-clause-stepped g c = λ _.
    let e = chars_past_char (chars_rest c.args.self.now.rest) (chars_rest c.next.new.self) c.in-Some.c
    (subst IsUtf8 c.as_str-left.ensures c.as_str-left.utf8) c.in-Some.ensures.steps.0 in
    rw e (place_before-step _ _ _ _ _ _ _ (rw e at c.args.self.now.stepped))

pub returns-in_default-clause-stepped : goal.returns-in_default-clause-stepped
returns-in_default-clause-stepped g c = λ t. absurd (false≢true t)

pub returns-clause-ended : goal.returns-clause-ended
returns-clause-ended g c = λ e. absurd (false≢true (sym e))

pub returns-in_default-clause-ended : goal.returns-in_default-clause-ended
returns-in_default-clause-ended g c = λ e.
    let (none, same) = c.in_default.ensures.steps.0 in
    (rw same refl, omega (arith, length-chars (chars_rest c.args.self.now.rest), none))
