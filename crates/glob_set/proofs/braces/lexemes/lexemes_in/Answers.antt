use Rattle.std.proofs.Common.{◌++◌, ap, ◌∙◌, arith}
use Rattle.glob_set.specs.Braces.{lexemes_from}
use Rattle.glob_set.proofs.BraceLexing.{lexemes_start, lexemes_more, lexemes_all}
use Rattle.glob_set.proofs.braces.lexemes.lexemes_in.Goals as goal

pub loop-place-init : goal.loop-place-init
loop-place-init g c =
    let text = c.args.text.now in
    ap (λ z. z ++ lexemes_from text 0 0 text) c.new-found.ensures.items ∙ lexemes_start text

pub loop-place-preserved : goal.loop-place-preserved
loop-place-preserved g c =
    let l = c.loop-place in
    lexemes_more c.args.text.now l.place l.end _ _ l.found.items _ _ (omega arith) c.index-text-place.is
    c.end_at-end.ensures c.lexeme_at.ensures c.in_ok-push.ensures.items l.invariant

pub returns : goal.returns
returns g c =
    let l = c.loop-place in
    lexemes_all c.args.text.now l.place l.end l.found.items (omega arith) l.invariant
