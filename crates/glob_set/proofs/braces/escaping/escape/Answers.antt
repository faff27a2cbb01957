use Rattle.std.proofs.Common.{◌∙◌, ap, sym, chars, encode_utf8_all}
use Rattle.std.proofs.lemmas.Iterator.{YieldsList-from_chars}
use Rattle.std.proofs.lemmas.Iterator.Consumers.{YieldsList-end}
use Rattle.std.proofs.lemmas.List.{map-id}
use Rattle.std.proofs.lemmas.Str.{IsUtf8-string_bytes}
use Rattle.glob_pattern.proofs.EscapingLemmas.Written.{written_chars, written_more}
use Rattle.glob_set.specs.BraceEscaping.{escaped_character, escaped_text}
use Rattle.glob_set.proofs.BraceEscapes.{stands_for}
use Rattle.glob_set.proofs.braces.escaping.escape.Goals as goal

pub returns-clause-escaped : goal.returns-clause-escaped
returns-clause-escaped g c =
    let past = YieldsList-end (YieldsList-from_chars c.args.text.now c.utf8.text (cc)) c.loop-c.yielded _
    c.loop-c.yielded_by _ _ c.in-None.is c.next.ensures.steps in
    written_chars escaped_character _ (chars c.args.text.now) (IsUtf8-string_bytes c.loop-c.escaped)
    (c.loop-c.invariant ∙ ap (λ cs. encode_utf8_all (escaped_text cs)) (sym (map-id c.loop-c.yielded) ∙ past.0))

pub returns-clause-stands : goal.returns-clause-stands
returns-clause-stands g c =
    let past = YieldsList-end (YieldsList-from_chars c.args.text.now c.utf8.text (cc)) c.loop-c.yielded _
    c.loop-c.yielded_by _ _ c.in-None.is c.next.ensures.steps in
    stands_for _ _ (IsUtf8-string_bytes c.loop-c.escaped) (c.loop-c.invariant ∙ ap (λ cs. encode_utf8_all
    (escaped_text cs)) (sym (map-id c.loop-c.yielded) ∙ past.0))

pub loop-c-preserved : goal.loop-c-preserved
loop-c-preserved g c = written_more escaped_character _ _ c.loop-c.yielded c.in-Some.c c.loop-c.invariant c.in_ok-push_escaped.ensures
