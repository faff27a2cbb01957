use Rattle.std.proofs.Common.{chars, ◌≡◌, ◌+◌, ◌-◌, ◌<◌, ◌≤◌, ℕ, [], ◌∷◌, ◌++◌, List, length, map, take, drop, get_or}
use Rattle.std.proofs.Common.{refl, sym, ap, ap₂, subst, ◌∙◌, arith}
use Rattle.std.specs.Prelude.{encode_utf8_all}
use Rattle.std.proofs.lemmas.List.{take_all, take_more, drop_more, drop_all, map-append, get_or-map, length-map}
use Rattle.std.proofs.lemmas.Str.{encodes-chars}
use Rattle.glob_pattern.specs.declared.pattern.tokens.TokenKind.{TokenKind}
use Rattle.glob_pattern.specs.declared.token.Token.TheVariants.{AnyChar}
use Rattle.glob_pattern.specs.Grammar.Tokens.{Token}
use Rattle.glob_pattern.specs.Computing.Tokens.{tokens_of, kind_of}
use Rattle.glob_captures.specs.declared.piece.Piece.{Piece}
use Rattle.glob_captures.specs.declared.written.Written.{Written}
use Rattle.glob_captures.specs.Writing.{AreWritten, byte_place}
use Rattle.glob_captures.specs.Private.Written.{TokensFrom}
use Rattle.glob_captures.proofs.ByteLemmas.{length-encodes_take, length-encodes_piece, byte_place_later}
use Rattle.glob_captures.proofs.WritingLemmas.{AreAdjacent-push, AreWritten-push, end_of_token, end_of_text}
use Rattle.glob_captures.proofs.written.tokens.Goals as goal

pub loop-token-init : goal.loop-token-init
loop-token-init g c =
    let tokens = tokens_of (chars c.args.pattern.now) in
    let is : c.as_slice-text.result.now ≡ chars c.args.pattern.now = c.as_slice-text.ensures.value
    ∙ c.in_ok-characters.ensures ∙ ap chars c.as_str.ensures.text in
    let read = c.tokens_len-token-end.ensures.read in
    record {
      within = omega arith;
      start = refl;
      many = ap length c.new-list.ensures.items;
      kinds = ap (map (λ (it : Written). it.kind)) c.new-list.ensures.items;
      adjacent = rw c.new-list.ensures.items refl;
      written = rw c.new-list.ensures.items refl;
      left = subst (λ text. TokensFrom text 0 tokens) (sym is) (read.0, read.1, sym read.2);
    }

pub bytes_of-requires : goal.bytes_of-requires
bytes_of-requires g c =
    let is : c.as_slice-text.result.now ≡ chars c.as_str.result.now = c.as_slice-text.ensures.value ∙ c.in_ok-characters.ensures in
    let bytes = ap length (ap encode_utf8_all is ∙ encodes-chars c.as_str.result.now c.as_str.utf8) in
    omega (arith, length-encodes_piece c.as_slice-text.result.now c.loop-token.place (c.token_end-after.result - c.loop-token.place), bytes)

pub overflow_add-end : goal.overflow_add-end
overflow_add-end g c =
    let text = c.as_slice-text.result.now in
    let is : c.as_slice-text.result.now ≡ chars c.as_str.result.now = c.as_slice-text.ensures.value ∙ c.in_ok-characters.ensures in
    let bytes = ap length (ap encode_utf8_all is ∙ encodes-chars c.as_str.result.now c.as_str.utf8) in
    omega (
      arith,
      byte_place_later text c.loop-token.place c.token_end-after.result c.token_end-after.ensures.low,
      length-encodes_take text c.token_end-after.result,
      c.loop-token.invariant.start,
      bytes,
      c.bytes_of.ensures,
    )

pub loop-token-preserved : goal.loop-token-preserved
loop-token-preserved g c =
    let tokens = tokens_of (chars c.args.pattern.now) in
    let text = c.as_slice-text.result.now in
    let kinds : List TokenKind = map kind_of tokens in
    let n = c.loop-token.token in
    let i = c.loop-token.place in
    let j = c.token_end-after.result in
    let inv = c.loop-token.invariant in
    let list = c.loop-token.list.items in
    let below : n < length tokens = omega (arith, c.tokens_len-token-end.ensures.count) in
    let many : length kinds ≡ length tokens = length-map tokens kind_of in
    let end : c.loop-token.start + c.bytes_of.result ≡ byte_place text j = omega (
      arith,
      byte_place_later text i j
          c.token_end-after.ensures.low,
      inv.start,
      c.bytes_of.ensures,
    ) in
    let written : Written = record {
      kind = c.token_kind-kind.result;
      piece = record { start = c.loop-token.start; end = c.loop-token.start + c.bytes_of.result };
    } in
    let piece : ℕ → ℕ → Piece = λ a b. record { start = a; end = b } in
    let at : written.piece ≡ piece (byte_place text i) (byte_place text j) = ap₂ piece inv.start end in
    let items : c.push.new.self.items ≡ list ++ written ∷ [] = c.in_ok-push.ensures.items in
    let kind : get_or kinds n c.token_kind-kind.result ≡ c.token_kind-kind.result = get_or-map kind_of tokens n AnyChar
    _ below ∙ sym c.token_kind-kind.ensures in
    let token : Token = get_or tokens n AnyChar in
    let next = end_of_token text i j token (drop (n + 1) tokens) (drop n tokens) c.token_kind-kind.result
    c.token_end-after.ensures.end c.token_kind-kind.ensures (drop_more tokens n AnyChar below) inv.left in
    record {
      within = c.token_end-after.ensures.high;
      start = end;
      many = omega (arith, c.in_ok-push.ensures.len, inv.many);
      kinds = ap (map (λ (it : Written). it.kind)) items ∙ map-append (λ (it : Written). it.kind) list (written ∷ [])
          ∙ ap (λ ks. ks ++ c.token_kind-kind.result ∷ []) inv.kinds
          ∙ ap (λ k. take n kinds ++ k ∷ []) (sym kind)
          ∙ sym (take_more kinds n c.token_kind-kind.result (omega (arith, many)));
      adjacent = rw items (AreAdjacent-push list 0 c.loop-token.start written inv.adjacent refl (omega arith));
      written = rw (items, take_more tokens n AnyChar below) (AreWritten-push text 0 (take n tokens) list i token
          written j inv.written next.0 at);
      left = next.1;
    }

pub returns-clause-many : goal.returns-clause-many
returns-clause-many g c =
    omega (arith, c.loop-token.invariant.many, c.loop-token.auto.token-end, c.loop-token-test.false, c.tokens_len-token-end.ensures.count)

pub returns-clause-kinds : goal.returns-clause-kinds
returns-clause-kinds g c =
    let tokens = tokens_of (chars c.args.pattern.now) in
    c.loop-token.invariant.kinds
    ∙ take_all c.loop-token.token (map kind_of tokens)
    (omega (arith, length-map tokens kind_of, c.loop-token-test.false, c.tokens_len-token-end.ensures.count))

pub returns-clause-written : goal.returns-clause-written
returns-clause-written g c =
    let tokens = tokens_of (chars c.args.pattern.now) in
    let text = c.as_slice-text.result.now in
    let n = c.loop-token.token in
    let list = c.loop-token.list.items in
    let is : text ≡ chars c.args.pattern.now = c.as_slice-text.ensures.value ∙ c.in_ok-characters.ensures
    ∙ ap chars c.as_str.ensures.text in
    let all : length tokens ≤ n = omega (arith, c.loop-token-test.false, c.tokens_len-token-end.ensures.count) in
    let left = subst (TokensFrom text c.loop-token.place) (drop_all n tokens all) c.loop-token.invariant.left in
    let whole : AreWritten text 0 tokens list c.loop-token.place =
    subst (λ ts. AreWritten text 0 ts list c.loop-token.place) (take_all n tokens all) c.loop-token.invariant.written in
    subst (λ t. AreWritten t 0 tokens list (length t)) is (subst (AreWritten text 0 tokens list)
    (end_of_text text c.loop-token.place left) whole)
