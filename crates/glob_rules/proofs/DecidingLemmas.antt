-- Rules that match a path, tried from the last to the first.
use Rattle.std.proofs.Common.{◌≡◌, ℕ, zero, suc, ◌+◌, ◌<◌, ◌≤◌, ◌↔◌, Bool, true, false, ◌&&◌, ◌||◌, not, List, []}
use Rattle.std.proofs.Common.{length, get_or, take, drop, Option, Some, None, eqb, eq-eqb, inl, inr, IsTrue, refl, sym}
use Rattle.std.proofs.Common.{ap, subst, ◌∙◌, arith}
use Rattle.std.proofs.lemmas.Bool.{cases_lt, cond-true, cond-false}
use Rattle.std.proofs.lemmas.Bool.Decides.{same_from_decides}
use Rattle.std.proofs.lemmas.List.{take_all, drop_all, at_drop_more}
use Rattle.std.specs.Str.{chars}
use Rattle.glob_text.specs.Text.{Text}
use Rattle.glob_pattern.specs.Matching.Texts.{Matches}
use Rattle.glob_pattern.specs.Computing.Deciding.{is_match}
use Rattle.glob_pattern.specs.declared.options.MatchOptions.{MatchOptions}
use Rattle.glob_pattern.proofs.CallerLemmas.{match_decided}
use Rattle.glob_set.specs.Sets.{MatchesAt, AnyMatch, LastMatch}
use Rattle.glob_rules.specs.Lists.{Ignores, rule_options}
use Rattle.glob_rules.specs.Deciding.{names, rule_at, last_naming, last_named, ignores, deciding_from, deciding}

not_true : (b : Bool) → ¬ (b ≡ true) → b ≡ false
not_true true not = absurd (not refl)
not_true false not = refl

-- the computed answer is that of a match
pub is_match-same : (o : MatchOptions) (pattern text : Text) (b : Bool) → IsTrue b ↔ Matches o pattern text → b ≡ is_match o pattern text
is_match-same o pattern text b answer = same_from_decides b (is_match o pattern text) answer (match_decided o pattern text)

module _ (list : Ignores) (path : Text) (d : Bool) where
  -- a rule for directories does not name a file
  pub names-not_directory : (k : ℕ) → (rule_at list k).directories ≡ true → d ≡ false → false ≡ names list path d k
  unfolding names
  names-not_directory k alone file = rw (alone, file)

  -- any other rule names what its pattern matches
  pub names-matched : (k : ℕ) (b : Bool) → (rule_at list k).directories && not d ≡ false → b ≡ is_match rule_options
      (chars (get_or list.patterns k [])) (chars path)
      → b ≡ names list path d k
  unfolding names
  names-matched k b any is = is ∙ ap (λ x. x && is_match rule_options (chars (get_or list.patterns k [])) (chars path))
      (may (rule_at list k).directories d any)
    where
      may : (alone e : Bool) → alone && not e ≡ false → true ≡ (e || not alone)
      may true true h = refl
      may true false h = absurd (cc)
      may false true h = refl
      may false false h = refl

  -- a path that no pattern matches is named by no rule
  pub names-unmatched : (k : ℕ) → k < length list.patterns → ¬ (MatchesAt rule_options list.patterns path k) → names list path d k ≡ false
  unfolding names MatchesAt
  names-unmatched k below none =
      not_true _ (λ yes. none (below, (match_decided rule_options (chars (get_or list.patterns k [])) (chars path)).0 (right _ _ yes)))
    where
      right : (x y : Bool) → x && y ≡ true → y ≡ true
      right true y h = h
      right false y h = absurd (cc)

  -- rules at the end that do not name the path
  pub last_naming-same : (m n : ℕ) → m ≤ n → ((k : ℕ) → m ≤ k → k < n → names list path d k ≡ false) → last_naming list
      path d n ≡ last_naming list path d m
  last_naming-same m zero order none = let e : zero ≡ m = omega arith in ap (last_naming list path d) e
  last_naming-same m (suc n) order none = elim (cases_lt m (suc n)) [
    | inl below ↦
        cond-false (names list path d n) _ _ (none n (omega arith) (omega arith))
        ∙ last_naming-same m n (omega arith) (λ k from to. none k from (omega arith))
    | inr at ↦ let e : suc n ≡ m = omega arith in ap (last_naming list path d) e
  ]

  -- the last rule that names the path, if no later pattern matches
  pub last_named-below : (k : ℕ) → length list.rules ≡ length list.patterns → LastMatch rule_options list.patterns path (Some k)
      → last_naming list path d (k + 1) ≡ last_named list path d
  unfolding last_named LastMatch MatchesAt
  last_named-below k same last =
      sym (last_naming-same (k + 1) (length list.rules) (omega (arith, last.0.0)) (λ j from to. names-unmatched j
      (omega (arith, to)) (last.1 j (omega (arith, from)))))

  pub last_named-none : length list.rules ≡ length list.patterns → LastMatch rule_options list.patterns path None
      → None ≡ last_named list path d
  unfolding last_named LastMatch AnyMatch
  last_named-none same none =
      sym (last_naming-same 0 (length list.rules) (omega arith) (λ j from to. names-unmatched j (omega (arith, to)) (λ at. none (j, at))))

  -- one rule fewer
  pub last_naming-less : (m n : ℕ) → m ≡ suc n → names list path d n ≡ false → last_naming list path d m ≡ last_naming list path d n
  last_naming-less m n e lacks = ap (last_naming list path d) e ∙ cond-false (names list path d n) _ _ lacks

  pub last_naming-here : (m n : ℕ) → m ≡ suc n → names list path d n ≡ true → last_naming list path d m ≡ Some n
  last_naming-here m n e holds = ap (last_naming list path d) e ∙ cond-true (names list path d n) _ _ holds

  -- whether the rule at a number names the path, by its pattern's answer
  pub names-answer : (k : ℕ) (alone : Bool) (pattern : Text) (o : MatchOptions) (b : Bool) → alone ≡
      (rule_at list k).directories → pattern ≡ get_or list.patterns k []
      → o ≡ rule_options → alone && not d ≡ false → IsTrue b ↔ Matches o (chars pattern) (chars path) → b ≡ names list path d k
  names-answer k alone pattern o b kind is options any answer =
      names-matched k b (ap (λ x. x && not d) (sym kind) ∙ any)
      (is_match-same rule_options (chars (get_or list.patterns k [])) (chars path) b
      (subst (λ p. IsTrue b ↔ Matches rule_options (chars p) (chars path)) is (subst (λ q. IsTrue b ↔ Matches q
      (chars pattern) (chars path)) options answer)))

  -- a directory above the path that is ignored decides
  pub deciding-here : (place : ℕ) (front : Text) (above : Option ℕ) → place < length path → get_or path place 0 ≡ 47
      → front ≡ take place path
      → above ≡ last_named list front true → ignores list above ≡ true
      → deciding_from list [] path d ≡ deciding_from list (take place path) (drop place path) d → above ≡ deciding list path d
  unfolding deciding
  deciding-here place front above below at is last ignored so_far =
      let same : above ≡ last_named list (take place path) true = last ∙ ap (λ f. last_named list f true) is in
      let test : (eqb (get_or path place 0) 47 && ignores list (last_named list (take place path) true)) ≡ true =
      ap (λ b. b && ignores list (last_named list (take place path) true)) (eq-eqb (get_or path place 0) 47 at) ∙ ap
      (ignores list) (sym same) ∙ ignored in
      sym (so_far ∙ at_drop_more (λ rest. deciding_from list (take place path) rest d) path place 0 below ∙ cond-true _ _ _ test ∙ sym same)

  -- otherwise the last rule that names the path decides
  pub deciding-end : (place : ℕ) → length path ≤ place → deciding_from list [] path d ≡ deciding_from list
      (take place path) (drop place path) d
      → last_named list path d ≡ deciding list path d
  unfolding deciding
  deciding-end place end so_far =
      sym (so_far ∙ ap (λ f. deciding_from list f (drop place path) d) (take_all place path end) ∙ ap
      (λ r. deciding_from list path r d) (drop_all place path end))

pub LastMatch-below : (o : MatchOptions) (patterns : List Text) (text : Text) (n : ℕ) → LastMatch o patterns text
    (Some n) → n < length patterns
unfolding LastMatch MatchesAt
LastMatch-below o patterns text n last = last.0.0
