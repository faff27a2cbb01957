use Rattle.std.proofs.Common.{◌++◌, [], ◌∷◌, Some, map, sym, ap, ◌∙◌, append_assoc, lit<, refl}
use Rattle.std.proofs.lemmas.Iterator.Consumers.{YieldsList-end}
use Rattle.std.proofs.lemmas.Iterator.Splits.{YieldsList-from_str_split}
use Rattle.std.proofs.lemmas.List.{map-append, append-nil}
use Rattle.glob.specs.Characters.{slash}
use Rattle.glob.specs.Content.{steps}
use Rattle.glob_examples.specs.OneFile.{one_file}
use Rattle.glob_examples.proofs.OneFile.{leads, nowhere}
use Rattle.glob_examples.proofs.one_file.look_below.Goals as goal

pub returns-then-is_empty : goal.returns-then-is_empty
returns-then-is_empty c = nowhere c.args.name.now c.args.path.now (sym c.is_empty.ensures ∙ c.if-is_empty.true)

pub loop-piece-init : goal.loop-piece-init
loop-piece-init c = λ rest. refl

-- one more piece
pub loop-piece-preserved : goal.loop-piece-preserved
loop-piece-preserved c = λ rest.
    let tree = one_file c.args.name.now in
    let piece = c.in-Some.piece in
    let yielded = map (λ x. x.now) c.loop-piece.yielded in
    ap (λ ts. steps tree (Some []) (ts ++ rest)) (map-append (λ x. x.now) c.loop-piece.yielded (piece ∷ []))
    ∙ ap (steps tree (Some [])) (append_assoc yielded (piece.now ∷ []) rest)
    ∙ c.loop-piece.invariant (piece.now ∷ rest)
    ∙ ap (λ k. steps tree k rest) (sym c.look_from-at.ensures)

-- no piece is left
pub returns : goal.returns
returns c =
    let tree = one_file c.args.name.now in
    let parts = YieldsList-from_str_split slash c.args.path.now (lit< tt) (cc) (cc) (cc) in
    let all = YieldsList-end parts c.loop-piece.yielded _ c.loop-piece.yielded_by _ _ c.in-None.is c.next.ensures.steps in
    leads c.args.name.now c.args.path.now (sym c.is_empty.ensures ∙ c.if-is_empty.false)
    ∙ ap (steps tree (Some [])) (sym all.0 ∙ sym (append-nil (map (λ x. x.now) c.loop-piece.yielded))) ∙ c.loop-piece.invariant []
