use Rattle.std.proofs.Common.{◌≡◌, ◌+◌, ℕ, List, [], ◌∷◌, ◌++◌, take, get_or, refl, sym, ap, ◌∙◌, arith}
use Rattle.std.proofs.lemmas.List.{take_more}
use Rattle.glob_captures.specs.declared.piece.Piece.{Piece}
use Rattle.glob_page.specs.Answers.{numbers_of}
use Rattle.glob_page.proofs.matching.piece_numbers.Goals as goal

-- the numbers of one piece more
numbers_of-push : (pieces : List Piece) (p : Piece) → numbers_of (pieces ++ p ∷ []) ≡ (numbers_of pieces ++ p.start ∷ []) ++ p.end ∷ []
numbers_of-push [] p = refl
numbers_of-push (x ∷ xs) p = ap (λ ns. x.start ∷ x.end ∷ ns) (numbers_of-push xs p)

pub loop-piece-preserved : goal.loop-piece-preserved
loop-piece-preserved c =
    let pieces : List Piece = c.args.pieces.now in
    let i : ℕ = c.loop-piece.piece-index in
    let none : Piece = record { start = 0; end = 0 } in
    let p : Piece = get_or pieces i none in
    let more : take (i + 1) pieces ≡ take i pieces ++ p ∷ [] = take_more pieces i none (omega arith) in
    let first : c.push.new.self.items ≡ c.loop-piece.numbers.items ++ p.start ∷ [] = c.in_ok-push.ensures.items in
    let second : c.push-in-loop-piece.new.self.items ≡ c.push.new.self.items ++ p.end ∷ [] = c.in_ok-push-2.ensures.items in
    second ∙ ap (λ ns. ns ++ p.end ∷ []) (first ∙ ap (λ ns. ns ++ p.start ∷ []) c.loop-piece.invariant)
    ∙ sym (numbers_of-push (take i pieces) p) ∙ ap numbers_of (sym more)
