use Rattle.std.proofs.Common.{◌≡◌, ◌<◌, ◌≤◌, ◌+◌, ◌⊎◌, ◌∷◌, ◌++◌, ◌∙◌, ℕ, List, [], Bool, true, false, inl, inr, suc}
use Rattle.std.proofs.Common.{ap, subst, refl, drop, get_or, length, map, string_bytes, drop-cons, arith, lit<}
use Rattle.std.proofs.lemmas.List.{drop_all}
use Rattle.glob_pattern.specs.declared.options.MatchOptions.{MatchOptions}
use Rattle.globs.specs.Explain.Hints.{AddsHints, AreHints, GivesAny, GivesNone, change_words}
use Rattle.globs.specs.declared.explain.hints.Change.{Change}
use Rattle.globs.specs.declared.explain.hints.TheConstants.{CHANGES}
use Rattle.globs.proofs.explain.hints.hint_lines.Goals.{then-branch+in_ok-push_str+in_ok-push, else-branch}
use Rattle.globs.proofs.explain.hints.hint_lines.Goals as goal

-- the lines of the changes from one on: its own line, if it gives a match, and the lines after it
adds_step : (o : MatchOptions) (ps : List (List ℕ)) (t : List ℕ) (items : List Change) (i : ℕ) (d : Change) (so : Bool)
    (old mid all : List ℕ)
    → i < length items → (so ≡ true → GivesAny (get_or items i d) o ps t) → (so ≡ false → GivesNone (get_or items i d) o ps t)
    → ((so ≡ true) × (mid ≡ old ++ change_words (get_or items i d) ++ (10 ∷ []))) ⊎ ((so ≡ false) × (mid ≡ old))
    → AddsHints o ps t (drop (i + 1) items) mid all → AddsHints o ps t (drop i items) old all
adds_step o ps t items i d so old mid all within some nothing (inl found) rest =
    let next : i + 1 ≡ suc i = omega arith in
    rw (drop-cons items i d within)
    (inl (
      some found.0,
      subst (λ lines. AddsHints o ps t (drop (suc i) items) lines all) found.1
          (subst (λ n. AddsHints o ps t (drop n items) mid all) next rest),
    ))
adds_step o ps t items i d so old mid all within some nothing (inr none) rest =
    let next : i + 1 ≡ suc i = omega arith in
    rw (drop-cons items i d within)
    (inr (
      nothing none.0,
      subst (λ lines. AddsHints o ps t (drop (suc i) items) lines all) none.1
          (subst (λ n. AddsHints o ps t (drop n items) mid all) next rest),
    ))

pub loop-change-init : goal.loop-change-init
loop-change-init g c = λ all rest.
    subst (λ old. AddsHints c.args.options (map (λ p. p.now) c.args.patterns.now) c.args.text.now CHANGES old all)
    c.new-lines.ensures.bytes rest

pub loop-change-preserved : goal.loop-change-preserved
loop-change-preserved g c = λ all rest.
    c.loop-change.invariant all
    (adds_step c.args.options (map (λ p. p.now) c.args.patterns.now) c.args.text.now CHANGES c.loop-change.change-index
    _ c.in_ok-gives_any.field-0
    (string_bytes c.loop-change.lines) (string_bytes c.if-branch.lines) all
    (omega arith) c.in_ok-gives_any.ensures.some c.in_ok-gives_any.ensures.none
    (elim c.if-branch.branch [
      | then-branch+in_ok-push_str+in_ok-push w ↦ inl (
        w.if-branch.true,
        rw w.lines-is (w.in_ok-push.ensures.bytes ∙ ap (λ t. string_bytes w.push_str.new.self ++ t)
            (w.in_ok-push.ensures.ascii (lit< tt)) ∙
            ap (λ t. t ++ (10 ∷ [])) (w.in_ok-push_str.ensures.bytes ∙ ap (λ t. string_bytes c.loop-change.lines ++ t) w.words.ensures)),
      )
      | else-branch w ↦ inr (w.if-branch.false, rw w.lines-is refl)
    ])
    rest)

-- after the last change there is no more
adds_none : (o : MatchOptions) (ps : List (List ℕ)) (t : List ℕ) (items : List Change) (i : ℕ) (lines : List ℕ) → length items ≤ i
    → AddsHints o ps t (drop i items) lines lines
adds_none o ps t items i lines past = rw (drop_all i items past) refl

pub returns : goal.returns
unfolding AreHints
returns g c =
    let lines = string_bytes c.loop-change.lines in
    c.loop-change.invariant lines
    (adds_none c.args.options (map (λ p. p.now) c.args.patterns.now) c.args.text.now CHANGES c.loop-change.change-index lines (omega arith))
