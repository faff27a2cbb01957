use Rattle.std.proofs.Common.{◌≡◌, ℕ, ◌+◌, ◌-◌, ◌<◌, ◌++◌, ◌∷◌, [], List, All, chars, encode_utf8, fold, reverse, sym}
use Rattle.std.proofs.Common.{ap, subst, ◌∙◌, arith}
use Rattle.std.proofs.lemmas.List.Elements.{All-push}
use Rattle.glob_text.specs.Characters.{dot}
use Rattle.glob_text.specs.Text.{Text}
use Rattle.glob_pattern.specs.Matching.Literals.{HasLiteral}
use Rattle.glob_set.specs.declared.key.Key.{Key}
use Rattle.glob_set.specs.declared.key.Key.TheVariants.{Ending, Extension}
use Rattle.glob_set.specs.Private.Components.{hashed}
use Rattle.glob_set.specs.Private.Keys.{HasKey, IsReadBack}
use Rattle.glob_set.proofs.KeyLemmas.{HasKey-ending, HasKey-extension, IsReadBack-end, IsReadBack-literal}
use Rattle.glob_set.proofs.pattern_keys.push_endings.Goals as goal
use Rattle.glob_set.proofs.pattern_keys.push_endings.Goals.{then-c-eq46+in_ok-push, else-c-eq46}

pub loop-token-init : goal.loop-token-init
loop-token-init g c = record {
  read = IsReadBack-end c.args.pattern.now c.tokens_len-token.result c.tokens_len-token.ensures.only;
  few = omega arith;
  keys = c.requires;
}

pub returns-in_default : goal.returns-in_default
returns-in_default g c = c.loop-token.invariant.keys

pub overflow_add-len : goal.overflow_add-len
overflow_add-len g c = omega (arith, c.loop-token.invariant.few, c.len_utf8.ensures.upper_bound)

next_left : (n : ℕ) → 0 < n → n ≡ n - 1 + 1
next_left n some = omega (arith, some)

-- one more key
key_more : (pattern : Text) (keys new : List Key) (key : Key) → new ≡ keys ++ key ∷ [] → All (HasKey pattern) keys
    → HasKey pattern key → All (HasKey pattern) new
key_more pattern keys new key is all has = subst (All (HasKey pattern)) (sym is) (All-push (HasKey pattern) keys key all has)

-- the extension, where the literal before the bytes so far is a dot
extension : (pattern : Text) (token hash len c : ℕ) → 0 < token → c ≡ dot → HasLiteral (chars pattern) (token - 1) c
    → IsReadBack pattern token hash len
    → HasKey pattern (Extension hash len)
extension pattern token hash len c some is literal read =
    HasKey-extension pattern (token - 1) hash len (subst (HasLiteral (chars pattern) (token - 1)) is literal)
    (subst (λ n. IsReadBack pattern n hash len) (next_left token some) read)

pub returns-then-len-gt-LONGEST : goal.returns-then-len-gt-LONGEST
returns-then-len-gt-LONGEST g c =
    let pattern = c.args.pattern.now in
    let l = c.loop-token in
    elim c.if-c-eq46.branch [
      | then-c-eq46+in_ok-push w ↦
          key_more pattern l.keys.items _ (Extension l.hash l.len) (ap (λ v. v.items) w.keys-is
          ∙ w.in_ok-push.ensures.items) l.invariant.keys
          (extension pattern l.token l.hash l.len c.in-Some.c (omega arith) w.if-c-eq46.true c.in-Some.ensures.literal l.invariant.read)
      | else-c-eq46 w ↦ subst (All (HasKey pattern)) (sym (ap (λ v. v.items) w.keys-is)) l.invariant.keys
    ]

pub loop-token-preserved : goal.loop-token-preserved
loop-token-preserved g c =
    let pattern = c.args.pattern.now in
    let l = c.loop-token in
    let number : ℕ = l.token - 1 in
    let behind = subst (λ n. IsReadBack pattern n l.hash l.len) (next_left l.token (omega arith)) l.invariant.read in
    let read : IsReadBack pattern number c.hash_before-hash.result (l.len + c.len_utf8.result) =
    subst (λ h. IsReadBack pattern number h (l.len + c.len_utf8.result)) (sym c.hash_before-hash.ensures)
    (subst (λ n. IsReadBack pattern number (fold hashed l.hash (reverse (encode_utf8 c.in-Some.c))) (l.len + n))
    (sym c.len_utf8.ensures.len)
    (IsReadBack-literal pattern number l.hash l.len c.in-Some.c c.in-Some.ensures.literal behind)) in
    let keys : All (HasKey pattern) c.if-c-eq46.keys.items = elim c.if-c-eq46.branch [
      | then-c-eq46+in_ok-push w ↦
          key_more pattern l.keys.items _ (Extension l.hash l.len) (ap (λ v. v.items) w.keys-is
          ∙ w.in_ok-push.ensures.items) l.invariant.keys
          (extension pattern l.token l.hash l.len c.in-Some.c (omega arith) w.if-c-eq46.true c.in-Some.ensures.literal l.invariant.read)
      | else-c-eq46 w ↦ subst (All (HasKey pattern)) (sym (ap (λ v. v.items) w.keys-is)) l.invariant.keys
    ] in
    record {
      read = read;
      few = omega (arith, c.if-len-gt-LONGEST.false);
      keys = key_more pattern c.if-c-eq46.keys.items _ (Ending c.hash_before-hash.result (l.len + c.len_utf8.result))
          c.in_ok-push-2.ensures.items keys
          (HasKey-ending pattern number c.hash_before-hash.result (l.len + c.len_utf8.result) read);
    }

pub returns : goal.returns
returns g c = c.loop-token.invariant.keys
