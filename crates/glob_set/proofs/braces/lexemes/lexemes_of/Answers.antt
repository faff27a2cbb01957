use Rattle.std.proofs.Common.{◌≡◌, ◌++◌, IfOk, subst, sym, ap, ◌∙◌, refl}
use Rattle.std.proofs.lemmas.Iterator.{YieldsList-from_chars}
use Rattle.std.proofs.lemmas.Iterator.Consumers.{YieldsList-end}
use Rattle.std.proofs.lemmas.List.{map-id}
use Rattle.glob_set.specs.Braces.{lexemes}
use Rattle.glob_set.proofs.braces.lexemes.lexemes_of.Goals as goal

pub returns : goal.returns
returns g c =
    let (start, list, same, (are, _, _), (past, (last, yields, ended))) = c.in_ok-extend.ensures.ran in
    let whole = YieldsList-end (YieldsList-from_chars c.args.text.now c.utf8.text (cc)) list last yields _ past refl ended in
    let all = are ∙ ap (λ xs. xs ++ list) c.new-characters.ensures.items ∙ sym (map-id list) ∙ whole.0 in
    subst (λ t. IfOk c.lexemes_in.result (λ found. found.items ≡ lexemes t)) (c.as_slice.ensures.value ∙ all) c.lexemes_in.ensures
