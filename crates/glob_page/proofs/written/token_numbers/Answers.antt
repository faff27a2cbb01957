use Rattle.std.proofs.Common.{◌≡◌, ◌≤◌, ◌+◌, ◌*◌, ℕ, List, [], ◌∷◌, ◌++◌, take, length, get_or, refl, sym, ap, ◌∙◌, arith}
use Rattle.std.proofs.lemmas.List.{take_all, take_more}
use Rattle.glob_pattern.specs.declared.pattern.tokens.TokenKind.TheVariants as kind
use Rattle.glob_captures.specs.declared.written.Written.{Written}
use Rattle.glob_page.specs.Answers.{AreTokens, kind_number, written_numbers}
use Rattle.glob_page.proofs.written.token_numbers.Goals as goal

-- the numbers of one token more
written_numbers-push : (tokens : List Written) (t : Written)
    → written_numbers (tokens ++ t ∷ [])
    ≡ ((written_numbers tokens ++ kind_number t.kind ∷ []) ++ t.piece.start ∷ []) ++ t.piece.end ∷ []
written_numbers-push [] t = refl
written_numbers-push (x ∷ xs) t =
    ap (λ ns. kind_number x.kind ∷ x.piece.start ∷ x.piece.end ∷ ns) (written_numbers-push xs t)

-- the same, where they are pushed one by one
numbers_pushed : (tokens : List Written) (t : Written) (before one two three : List ℕ) → before ≡ written_numbers tokens
    → one ≡ before ++ kind_number t.kind ∷ [] → two ≡ one ++ t.piece.start ∷ [] → three ≡ two ++ t.piece.end ∷ []
    → three ≡ written_numbers (tokens ++ t ∷ [])
numbers_pushed tokens t before one two three inv first second third =
    third ∙ ap (λ ns. ns ++ t.piece.end ∷ []) (second ∙ ap (λ ns. ns ++ t.piece.start ∷ [])
    (first ∙ ap (λ ns. ns ++ kind_number t.kind ∷ []) inv))
    ∙ sym (written_numbers-push tokens t)

-- they are three for each token
length-written_numbers : (tokens : List Written) → length (written_numbers tokens) ≡ 3 * length tokens
length-written_numbers [] = refl
length-written_numbers (x ∷ xs) = let more = length-written_numbers xs in omega arith

-- after the loop they are those of all tokens
all_numbers : (numbers : List ℕ) (tokens list : List Written) (i : ℕ) → numbers ≡ written_numbers (take i tokens)
    → length tokens ≤ i → tokens ≡ list → numbers ≡ written_numbers list
all_numbers numbers tokens list i inv over same = inv ∙ ap written_numbers (take_all i tokens over ∙ same)

pub loop-token-preserved : goal.loop-token-preserved
loop-token-preserved c =
    let tokens : List Written = c.as_slice-token-items.result.now in
    let i : ℕ = c.loop-token.token-index in
    let none : Written = record { kind = kind.Literal; piece = record { start = 0; end = 0 } } in
    let t : Written = get_or tokens i none in
    let more : take (i + 1) tokens ≡ take i tokens ++ t ∷ [] = take_more tokens i none (omega arith) in
    let first : c.push.new.self.items ≡ c.loop-token.numbers.items ++ kind_number t.kind ∷ [] =
    c.in_ok-push.ensures.items ∙ ap (λ n. c.loop-token.numbers.items ++ n ∷ []) c.number_of.ensures in
    numbers_pushed (take i tokens) t _ _ _ _ c.loop-token.invariant first c.in_ok-push-2.ensures.items c.in_ok-push-3.ensures.items
    ∙ ap written_numbers (sym more)

pub returns-clause-count : goal.returns-clause-count
returns-clause-count c =
    let list : List Written = c.in_ok-list.list.items in
    ap length (all_numbers _ _ list _ c.loop-token.invariant c.loop-token-test.false c.as_slice-token-items.ensures.value)
    ∙ length-written_numbers list ∙ ap (λ n. 3 * n) c.in_ok-list.ensures.many

pub returns-clause-tokens : goal.returns-clause-tokens
unfolding AreTokens
returns-clause-tokens c =
    let list : List Written = c.in_ok-list.list.items in (
      list,
      c.in_ok-list.ensures.kinds,
      c.in_ok-list.ensures.written,
      all_numbers _ _ list _ c.loop-token.invariant c.loop-token-test.false c.as_slice-token-items.ensures.value,
    )
