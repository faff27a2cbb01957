use Rattle.std.proofs.Common.{◌≡◌, ◌++◌, [], length, sym, ap, ◌∙◌, refl, arith}
use Rattle.std.proofs.Math.Seq.{take-append_seam}
use Rattle.std.proofs.lemmas.Iterator.{YieldsList-from_chars}
use Rattle.std.proofs.lemmas.Iterator.Consumers.{YieldsList-end}
use Rattle.std.proofs.lemmas.List.{map-id}
use Rattle.std.proofs.lemmas.Str.{chars-IsAscii}
use Rattle.std.specs.Str.{IsAscii}
use Rattle.glob_pattern.proofs.grammar.characters_of.Goals as goal

-- The bytes of ASCII are the characters.
pub returns-then-widen : goal.returns-then-widen
returns-then-widen g c =
    let text = c.args.text.now in
    let written : c.widen.new.characters ≡ text = c.widen.ensures.written ∙ c.as_bytes.ensures.value in
    let ascii : IsAscii text = rw (← c.as_bytes.ensures.value) (c.widen.ensures.ascii c.if-widen.true) in
    let len : c.in_ok-characters.characters.len ≡ length text = omega (arith, c.in_ok-characters.ensures.len) in
    rw (len, written, chars-IsAscii text ascii) (take-append_seam text _)

pub returns : goal.returns
returns g c =
    let (start, list, same, (are, _, _), (past, (last, yields, ended))) = c.in_ok-extend.ensures.ran in
    let none : c.clear.new.self.items ≡ [] = c.clear.ensures.items in
    let whole = YieldsList-end (YieldsList-from_chars c.args.text.now c.utf8.text (cc)) list last yields _ past refl ended in
    are ∙ ap (λ xs. xs ++ list) none ∙ sym (map-id list) ∙ whole.0
