use Rattle.std.proofs.Common.{◌≡◌, ◌+◌, ◌<◌, ℕ, length, take, get_or, List, sym, ap, ◌∙◌, arith}
use Rattle.std.specs.Prelude.{encode_utf8, encode_utf8_all}
use Rattle.std.proofs.lemmas.List.{take_more}
use Rattle.glob_captures.proofs.ByteLemmas.{length-encodes_push, length-encodes_take}
use Rattle.glob_captures.proofs.steps.bytes_of.Goals as goal

-- the bytes with one character more
more : (cs : List ℕ) (i c : ℕ) → i < length cs → c ≡ get_or cs i c → length (encode_utf8_all (take (i + 1) cs)) ≡
    length (encode_utf8_all (take i cs)) + length (encode_utf8 c)
more cs i c below is =
    ap (λ xs. length (encode_utf8_all xs)) (take_more cs i c below)
    ∙ length-encodes_push (take i cs) (get_or cs i c) ∙ ap (λ x. length (encode_utf8_all (take i cs)) + length (encode_utf8 x)) (sym is)

pub overflow_add-bytes : goal.overflow_add-bytes
overflow_add-bytes c =
    let cs = c.args.characters.now in
    let i = c.loop-c.c-index in
    let next = more cs i c.c-item.result (omega arith) c.c-item.is in
    let most = length-encodes_take cs (i + 1) in
    omega (arith, next, most, c.len_utf8-bytes.ensures.len, c.loop-c.invariant, c.requires)

pub loop-c-preserved : goal.loop-c-preserved
loop-c-preserved c =
    let next = more c.args.characters.now c.loop-c.c-index c.c-item.result (omega arith) c.c-item.is in
    omega (arith, next, c.len_utf8-bytes.ensures.len, c.loop-c.invariant)
