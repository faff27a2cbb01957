-- Each lexeme changes the count as the definition says; the last `{` is at the end of the list.
use Rattle.std.proofs.Common.{◌≡◌, [], ◌∷◌, ◌++◌, ◌+◌, ◌*◌, reverse, min, refl, sym, ap, subst, ◌∙◌, arith}
use Rattle.std.proofs.lemmas.List.{nil_from_length}
use Rattle.glob_set.specs.declared.braces.counting.Opened.{Opened}
use Rattle.glob_set.specs.declared.braces.lexemes.Lexeme.TheVariants.{Open, Comma, Close}
use Rattle.glob_set.specs.Private.BraceCounts.{largest, CountsSoFar}
use Rattle.glob_set.proofs.BraceCounting.{more_literal, more_open, more_comma, more_comma_outside, more_close, reverse_push, IsUnmatched-at}
use Rattle.glob_set.proofs.braces.counting.count_lexeme.Goals as goal

pub returns-in-Literal-clause-counted : goal.returns-in-Literal-clause-counted
returns-in-Literal-clause-counted g c =
    rw c.in-Literal.is (λ before at so. more_literal c.in-Literal.field-0 before c.args.count (reverse c.args.opened.now.items) so)

pub returns-in_ok-push-in-Open-clause-counted : goal.returns-in_ok-push-in-Open-clause-counted
returns-in_ok-push-in-Open-clause-counted g c =
    let old = c.args.opened.now.items in
    let o : Opened = record { place = c.args.place; before = c.args.count; found = 0 } in
    let pushed : reverse c.push.new.self.items ≡ o ∷ reverse old = reverse_push old c.push.new.self.items o
    c.in_ok-push-in-Open.ensures.items in
    rw c.in-Open.is (λ before at so.
    subst (λ os. CountsSoFar (before ++ Open ∷ []) 1 os) (sym pushed) (more_open before c.args.count (reverse old) c.args.place at so))

pub returns-in_ok-push-in-Some-clause-counted : goal.returns-in_ok-push-in-Some-clause-counted
returns-in_ok-push-in-Some-clause-counted g c =
    let rest = c.pop.new.self.items in
    let last = c.in-Some.last in
    let popped : reverse c.args.opened.now.items ≡ last ∷ reverse rest = reverse_push rest c.args.opened.now.items last
    c.in-Some.ensures.items in
    let o : Opened = record { place = last.place; before = last.before; found = c.saturating_add.result } in
    let pushed : reverse c.push-in-Some.new.self.items ≡ o ∷ reverse rest =
    reverse_push rest c.push-in-Some.new.self.items o c.in_ok-push-in-Some.ensures.items in
    rw c.in-Comma.is (λ before at so.
    subst (λ os. CountsSoFar (before ++ Comma ∷ []) 1 os) (sym pushed)
    (more_comma before c.args.count last (reverse rest) o (subst (CountsSoFar before c.args.count) popped so) refl refl
    c.saturating_add.ensures))

pub returns-in-None-clause-counted : goal.returns-in-None-clause-counted
returns-in-None-clause-counted g c =
    let none : c.args.opened.now.items ≡ [] = nil_from_length c.args.opened.now.items
    (omega (arith, c.in-None.ensures.cases.0, c.args.opened.now.ok.0)) in
    let left : c.pop.new.self.items ≡ [] = nil_from_length c.pop.new.self.items
    (omega (arith, c.in-None.ensures.cases.1, c.pop.new.self.ok.0)) in
    rw c.in-Comma.is (λ before at so.
    subst (λ os. CountsSoFar (before ++ Comma ∷ []) c.args.count (reverse os)) (sym left)
    (more_comma_outside before c.args.count (subst (λ os. CountsSoFar before c.args.count (reverse os)) none so)))

pub returns-in-Some-pop-clause-counted : goal.returns-in-Some-pop-clause-counted
returns-in-Some-pop-clause-counted g c =
    let rest = c.pop-in-Close.new.self.items in
    let last = c.in-Some-pop.last in
    let popped : reverse c.args.opened.now.items ≡ last ∷ reverse rest =
    reverse_push rest c.args.opened.now.items last c.in-Some-pop.ensures.items in
    let size : c.saturating_mul.result ≡ min (last.before * min (last.found + c.args.count) largest) largest =
    c.saturating_mul.ensures ∙ ap (λ k. min (last.before * k) largest) c.saturating_add-in-Some-pop.ensures in
    rw c.in-Close.is (λ before at so.
    subst (λ n. CountsSoFar (before ++ Close ∷ []) n (reverse rest)) (sym size)
    (more_close before c.args.count last (reverse rest) (subst (CountsSoFar before c.args.count) popped so)))

pub returns-in-None-pop-clause-refused : goal.returns-in-None-pop-clause-refused
returns-in-None-pop-clause-refused g c =
    let none : c.args.opened.now.items ≡ [] =
    nil_from_length c.args.opened.now.items (omega (arith, c.in-None-pop.ensures.cases.0, c.args.opened.now.ok.0)) in
    rw c.in-Close.is (λ before rest at so.
    IsUnmatched-at before rest c.args.count c.args.place at (subst (λ os. CountsSoFar before c.args.count (reverse os)) none so))
