use Rattle.std.proofs.Common.{◌≡◌, ℕ, ◌+◌, ◌<◌, ◌≤◌, ◌++◌, ◌∷◌, ◌∙◌, List, [], length, get_or, drop, map, refl, sym}
use Rattle.std.proofs.Common.{append-nil, append_assoc, arith, string_bytes}
use Rattle.std.proofs.lemmas.List.{drop_all, drop_more}
use Rattle.std.proofs.lemmas.Result.{IfOk-from_err}
use Rattle.std.proofs.Math.Utf8.{encode}
use Rattle.glob_lines.specs.Lines.{line_feed, with_ends}
use Rattle.globs.specs.declared.ignoring.Source.{Source}
use Rattle.globs.proofs.ignoring.joined.Goals as goal

-- the lines of the other sources, once the next one is added
next_added : {A : Type 0} (text : List ℕ) (source : Source A) (sources : List (Source A)) (i : ℕ) → i < length sources →
    source ≡ get_or sources i source
    → ((text ++ string_bytes source.text) ++ line_feed ∷ []) ++ with_ends line_feed (map (λ s. string_bytes s.text) (drop (i + 1) sources))
    ≡ text ++ with_ends line_feed (map (λ s. string_bytes s.text) (drop i sources))
next_added text source sources i below is = rw (drop_more sources i source below) (rw (sym is) (simp append_assoc refl))

pub loop-source-preserved : goal.loop-source-preserved
unfolding encode
loop-source-preserved g c =
    rw c.in_ok-push.ensures.bytes (rw c.in_ok-push_str.ensures.bytes (rw c.as_str.ensures.value
    (next_added _ _ c.args.sources.now c.loop-source.source-index (omega arith) c.source-item.is ∙ c.loop-source.invariant)))

pub returns-in_err-push : goal.returns-in_err-push
returns-in_err-push g c = IfOk-from_err _ _ c.from_residual-in_err-push.ensures.0

pub returns-in_err-push_str : goal.returns-in_err-push_str
returns-in_err-push_str g c = IfOk-from_err _ _ c.from_residual.ensures.0

-- no source is left
no_source_left : {A : Type 0} (text : List ℕ) (sources : List (Source A)) (i : ℕ) → length sources ≤ i
    → text ≡ text ++ with_ends line_feed (map (λ s. string_bytes s.text) (drop i sources))
no_source_left text sources i end = rw (drop_all i sources end) (sym (append-nil text))

pub returns : goal.returns
returns g c = no_source_left _ c.args.sources.now c.loop-source.source-index (omega arith) ∙ c.loop-source.invariant
