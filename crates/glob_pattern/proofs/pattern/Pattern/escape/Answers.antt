use Rattle.std.proofs.Common.{◌∙◌, ap, sym, chars, encode_utf8_all}
use Rattle.std.proofs.lemmas.Iterator.{YieldsList-from_chars}
use Rattle.std.proofs.lemmas.Iterator.Consumers.{YieldsList-end}
use Rattle.std.proofs.lemmas.List.{map-id}
use Rattle.std.proofs.lemmas.Result.{IfOk-weaker}
use Rattle.std.proofs.lemmas.Str.{IsUtf8-string_bytes, encodes-chars}
use Rattle.std.specs.List.{count_by}
use Rattle.glob_pattern.specs.Escaping.{is_special, escaped_character, escaped_text}
use Rattle.glob_pattern.proofs.EscapingLemmas.Written.{escaped_text-uncounted, written_chars, written_more}
use Rattle.glob_pattern.proofs.pattern.Pattern.escape.Goals as goal

pub returns-then-specials-eq0 : goal.returns-then-specials-eq0
returns-then-specials-eq0 g c =
    IfOk-weaker c.from_str.result _ _
    (λ t is. ap chars is ∙ sym (escaped_text-uncounted (chars c.args.s.now) (ap (count_by is_special)
    (encodes-chars c.args.s.now c.utf8.s) ∙ sym c.count_special-specials.ensures ∙ c.if-specials-eq0.true)))
    c.from_str.ensures.ok

pub returns : goal.returns
returns g c =
    let past = YieldsList-end (YieldsList-from_chars c.args.s.now c.utf8.s (cc)) c.loop-c.yielded _ c.loop-c.yielded_by
    _ _ c.in-None.is c.next.ensures.steps in
    written_chars escaped_character _ (chars c.args.s.now) (IsUtf8-string_bytes c.loop-c.escaped) (c.loop-c.invariant
    ∙ ap (λ cs. encode_utf8_all (escaped_text cs)) (sym (map-id c.loop-c.yielded) ∙ past.0))

pub loop-c-preserved : goal.loop-c-preserved
loop-c-preserved g c = written_more escaped_character _ _ c.loop-c.yielded c.in-Some.c c.loop-c.invariant c.in_ok-push_escaped.ensures
