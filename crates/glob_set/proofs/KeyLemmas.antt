-- Every text that a pattern matches is looked up by the keys of the pattern.
use Rattle.std.proofs.Common.{◌≡◌, ℕ, zero, suc, ◌+◌, ◌*◌, ◌%◌, ◌^◌, ◌<◌, ◌==◌, ◌⊎◌, inl, inr, min, Bool, true, false}
use Rattle.std.proofs.Common.{cond, List, [], ◌∷◌, ◌++◌, length, take, drop, reverse, get_or, IsTrue, fold, refl, sym}
use Rattle.std.proofs.Common.{ap, ap₂, subst, ◌∙◌, arith, add-one, chars, encode_utf8, length-append, length-drop}
use Rattle.std.proofs.Common.{⊎_elim}
use Rattle.std.proofs.lemmas.Bool.{or_cases, and_parts, eq-eqb, eqb-true, ltb-true, cases_lt}
use Rattle.std.proofs.lemmas.List.{append-nil, take-append-drop, drop_all, reverse-append}
use Rattle.std.proofs.lemmas.List.Folds.{concat-append}
use Rattle.std.proofs.lemmas.List.Sums.{fold-append}
use Rattle.std.proofs.lemmas.Str.{encode_ascii, encodes-append, encodes-chars}
use Rattle.std.proofs.lemmas.Str.Ascii.{lowercase_is}
use Rattle.std.specs.Char.{is_ascii, to_ascii_lowercase}
use Rattle.std.specs.List.{concat}
use Rattle.std.specs.Str.{IsUtf8, encode_utf8_all}
use Rattle.glob_text.specs.Characters.{dot, slash}
use Rattle.glob_text.specs.Text.{Text}
use Rattle.glob_pattern.specs.Computing.Tokens.{kind_of}
use Rattle.glob_pattern.specs.Grammar.Brackets.{is_same}
use Rattle.glob_pattern.specs.Grammar.Tokens.{Token}
use Rattle.glob_pattern.specs.Grammar.Units.{HasTokens}
use Rattle.glob_pattern.specs.Matching.Literals.{HasCount, HasLiteral}
use Rattle.glob_pattern.specs.Matching.Texts.{TakesPiece, HasForm, EndsInSlash, AreAllowed}
use Rattle.glob_pattern.specs.declared.options.MatchOptions.{MatchOptions}
use Rattle.glob_pattern.specs.declared.token.Token.TheVariants.{Literal, AnyChar, AnySequence, Recursive, OneOf, NoneOf}
use Rattle.glob_pattern.specs.declared.pattern.tokens.TokenKind.TheVariants as kind
use Rattle.glob_pattern.proofs.CallerLemmas.{one_reading, pieces_of_match, tokens_of_match}
use Rattle.glob_set.specs.declared.components.Component.{Component}
use Rattle.glob_set.specs.declared.key.Key.{Key}
use Rattle.glob_set.specs.declared.key.Key.TheVariants as variant
use Rattle.glob_set.specs.declared.key.Key.TheVariants.{Beginning, Ending, Extension}
use Rattle.glob_set.specs.Private.Components.{start, after, hashed, is_end, IsReadAt, IsInnerRecursive}
use Rattle.glob_set.specs.Private.Keys.{HasKey, IsKeyOf, IsReadBack, hash_back}
use Rattle.glob_set.proofs.TokenPairs.{literal_within, same_ascii}

-- the piece of token `number`
pub record PieceAt (o : MatchOptions) (text : Text) (tokens : List Token) (pieces : List Text) (number : ℕ) : Type 0 where
  pub piece : Text
  pub place : ℕ
  pub more : take (suc number) pieces ≡ take number pieces ++ piece ∷ []
  pub rest : drop number pieces ≡ piece ∷ drop (suc number) pieces
  pub takes : TakesPiece o text (get_or tokens number AnyChar) place piece
  pub form : HasForm (get_or tokens number AnyChar) (drop (suc number) tokens) piece

piece_at : (o : MatchOptions) (text : Text) (k : ℕ) (tokens : List Token) (pieces : List Text) → AreAllowed o text k tokens pieces
    → (number : ℕ) → number < length tokens → PieceAt o text tokens pieces number
piece_at o text k [] pieces allowed number below = absurd (omega arith)
piece_at o text k (t ∷ ts) [] allowed number below = absurd allowed
piece_at o text k (t ∷ ts) (piece ∷ pieces) (took, form, others) zero below =
    record { piece = piece; place = k; more = refl; rest = refl; takes = took; form = form }
piece_at o text k (t ∷ ts) (piece ∷ pieces) (took, form, others) (suc number) below =
    let p = piece_at o text (k + length piece) ts pieces others number (omega arith) in
    record { piece = p.piece; place = p.place; more = ap (λ ps. piece ∷ ps) p.more; rest = p.rest; takes = p.takes; form = p.form }

as_many : (o : MatchOptions) (text : Text) (k : ℕ) (tokens : List Token) (pieces : List Text) → AreAllowed o text k
    tokens pieces → length pieces ≡ length tokens
as_many o text k [] [] allowed = refl
as_many o text k [] (piece ∷ pieces) allowed = absurd allowed
as_many o text k (t ∷ ts) [] allowed = absurd allowed
as_many o text k (t ∷ ts) (piece ∷ pieces) (took, form, others) = ap suc (as_many o text (k + length piece) ts pieces others)

-- what has been read after some pieces
read : List Text → Component
read pieces = fold after start (encode_utf8_all (concat pieces))

read_more : (pieces : List Text) (piece : Text) → read (pieces ++ piece ∷ []) ≡ fold after (read pieces) (encode_utf8_all piece)
unfolding read
read_more pieces piece =
    ap (λ t. fold after start (encode_utf8_all t)) (concat-append pieces (piece ∷ []) ∙ ap (λ t. concat pieces ++ t) (append-nil piece))
    ∙ ap (fold after start) (encodes-append (concat pieces) piece)
    ∙ fold-append after start (encode_utf8_all (concat pieces)) (encode_utf8_all piece)

lower_mark : (c mark : ℕ) → mark < 65 → to_ascii_lowercase c ≡ mark → c ≡ mark
lower_mark c mark low is =
    let cases = lowercase_is c in
    ⊎_elim (λ below. sym (cases.1 below) ∙ is)
    (λ above. ⊎_elim
    (λ within. absurd (omega (arith, low, above, within, cases.0 (omega (arith, above), omega (arith, within)), is)))
    (λ beyond. sym (cases.2 (omega (arith, beyond))) ∙ is)
    (cases_lt c 91))
    (cases_lt c 65)

same_bools : (a b : Bool) → (a ≡ true → b ≡ true) → (b ≡ true → a ≡ true) → a ≡ b
same_bools true true f g = refl
same_bools true false f g = sym (f refl)
same_bools false true f g = g refl
same_bools false false f g = refl

-- two characters that are the same are both the mark (such as `.` or `/`), or neither is
same_mark : (mark : ℕ) → mark < 65 → (case : Bool) (c x : ℕ) → IsTrue (is_same case c x) → c == mark ≡ x == mark
same_mark mark low case c x same =
    ⊎_elim
    (λ is. ap (λ y. y == mark) (eqb-true c x is))
    (λ both.
    let lower = eqb-true (to_ascii_lowercase c) (to_ascii_lowercase x) (and_parts _ (to_ascii_lowercase c ==
    to_ascii_lowercase x) both).1 in
    let own = (lowercase_is mark).1 low in
    same_bools (c == mark) (x == mark)
    (λ is. eq-eqb x mark (lower_mark x mark low (sym lower ∙ ap to_ascii_lowercase (eqb-true c mark is) ∙ own)))
    (λ is. eq-eqb c mark (lower_mark c mark low (lower ∙ ap to_ascii_lowercase (eqb-true x mark is) ∙ own))))
    (or_cases (c == x) _ same)

after_same : (component : Component) (c x : ℕ) → c == slash ≡ x == slash → c % 32 ≡ x % 32 → after component c ≡ after component x
after_same component c x slashes low =
    ap₂ (λ b r. cond b start (record { hash = (component.hash * 33 + r) % 2 ^ 32; len = min (component.len + 1) 255 })) slashes low

-- a piece of one character that is the same as x: reading it forwards or backwards gives the same hashes
pub record SameCharacter (piece : Text) (x : ℕ) : Type 0 where
  pub as_many : length (encode_utf8_all piece) ≡ length (encode_utf8 x)
  pub read : (c : Component) → fold after c (encode_utf8_all piece) ≡ fold after c (encode_utf8 x)
  pub back : (hash : ℕ) → fold hashed hash (reverse (encode_utf8_all piece)) ≡ fold hashed hash (reverse (encode_utf8 x))

same_of_bytes : (piece : Text) (x : ℕ) → encode_utf8_all piece ≡ encode_utf8 x → SameCharacter piece x
same_of_bytes piece x is = record {
  as_many = ap length is;
  read = λ c. ap (fold after c) is;
  back = λ hash. ap (λ bytes. fold hashed hash (reverse bytes)) is;
}

same_in_ascii : (case : Bool) (c x : ℕ) → x < 128 → IsTrue (is_same case c x) → SameCharacter (c ∷ []) x
same_in_ascii case c x low same =
    let (ascii, bits) = same_ascii case c x low same in
    let one : encode_utf8_all (c ∷ []) ≡ c ∷ [] = append-nil (encode_utf8 c) ∙ encode_ascii c ascii in
    let other = encode_ascii x low in
    record {
      as_many = ap length one ∙ sym (ap length other);
      read = λ k. ap (fold after k) one ∙ after_same k c x (same_mark slash (omega arith) case c x same) bits ∙ sym
          (ap (fold after k) other);
      back = λ hash.
          ap (λ bytes. fold hashed hash (reverse bytes)) one ∙ ap (λ r. (hash * 33 + r) % 2 ^ 32) bits
          ∙ sym (ap (λ bytes. fold hashed hash (reverse bytes)) other);
    }

same_piece : (case : Bool) (piece : Text) (x : ℕ) → length piece ≡ 1 → ((i : ℕ) → i < length piece → IsTrue
    (is_same case (get_or piece i 0) x))
    → SameCharacter piece x
same_piece case [] x one same = absurd (omega arith)
same_piece case (c ∷ d ∷ cs) x one same = absurd (omega arith)
same_piece case (c ∷ []) x one same =
    ⊎_elim
    (λ is. same_of_bytes (c ∷ []) x (append-nil (encode_utf8 c) ∙ ap encode_utf8 (eqb-true c x is)))
    (λ both. same_in_ascii case c x (ltb-true x 128 (and_parts _ (is_ascii x) (and_parts _ (to_ascii_lowercase c ==
    to_ascii_lowercase x) both).0).1) (same 0 (omega arith)))
    (or_cases (c == x) _ (same 0 (omega arith)))

-- the byte of a piece that is a mark
mark_bytes : (mark : ℕ) → mark < 65 → (case : Bool) (piece : Text) → length piece ≡ 1
    → ((i : ℕ) → i < length piece → IsTrue (is_same case (get_or piece i 0) mark)) → encode_utf8_all piece ≡ mark ∷ []
mark_bytes mark low case [] one same = absurd (omega arith)
mark_bytes mark low case (c ∷ d ∷ cs) one same = absurd (omega arith)
mark_bytes mark low case (c ∷ []) one same =
    let is : c ≡ mark = eqb-true c mark (same_mark mark low case c mark (same 0 (omega arith)) ∙ eq-eqb mark mark refl) in
    append-nil (encode_utf8 c) ∙ ap encode_utf8 is ∙ encode_ascii mark (omega (arith, low))

-- a piece of `**` before others leaves the start of a component
read_recursive : (piece : Text) → (piece ≡ []) ⊎ EndsInSlash piece → fold after start (encode_utf8_all piece) ≡ start
read_recursive piece =
    ⊎_elim
    (λ none. ap (λ p. fold after start (encode_utf8_all p)) none)
    (λ (front, is).
    ap (λ p. fold after start (encode_utf8_all p)) is ∙ ap (fold after start) (encodes-append front (slash ∷ []))
    ∙ ap (λ p. fold after start (encode_utf8_all front ++ (p ++ []))) (encode_ascii slash (omega arith))
    ∙ fold-append after start (encode_utf8_all front) (slash ∷ []))

module _ (o : MatchOptions) (text : Text) (tokens : List Token) (pieces : List Text) (allowed : AreAllowed o text 0 tokens pieces) where
  -- the piece of a literal
  literal_at : (number x : ℕ) → get_or tokens number AnyChar ≡ Literal x
      → (p : PieceAt o text tokens pieces number) × (length p.piece ≡ 1) × TakesPiece o text (Literal x) p.place p.piece
  literal_at number x is =
      let p = piece_at o text 0 tokens pieces allowed number (literal_within tokens number x is) in (
        p,
        subst (λ t. HasForm t (drop (suc number) tokens) p.piece) is p.form,
        subst (λ t. TakesPiece o text t p.place p.piece) is p.takes,
      )

  same_at : (number x : ℕ) → get_or tokens number AnyChar ≡ Literal x → (p : PieceAt o text tokens pieces number) × SameCharacter p.piece x
  same_at number x is =
      let (p, one, takes) = literal_at number x is in
      (p, same_piece o.case_sensitive p.piece x one takes)

  -- the bytes of the pieces from one on
  bytes_from : (number : ℕ) (p : PieceAt o text tokens pieces number)
      → encode_utf8_all (concat (drop number pieces)) ≡ encode_utf8_all p.piece ++ encode_utf8_all (concat (drop (suc number) pieces))
  bytes_from number p = ap (λ ps. encode_utf8_all (concat ps)) p.rest ∙ encodes-append p.piece (concat (drop (suc number) pieces))

  -- the bytes of the pieces from a mark on
  bytes_from_mark : (number mark : ℕ) → mark < 65 → get_or tokens number AnyChar ≡ Literal mark
      → encode_utf8_all (concat (drop number pieces)) ≡ mark ∷ encode_utf8_all (concat (drop (suc number) pieces))
  bytes_from_mark number mark low is =
      let (p, one, takes) = literal_at number mark is in
      bytes_from number p ∙ ap (λ bs. bs ++ encode_utf8_all (concat (drop (suc number) pieces)))
      (mark_bytes mark low o.case_sensitive p.piece one takes)

  after_literal : (number x : ℕ) → get_or tokens number AnyChar ≡ Literal x → read (take (suc number) pieces) ≡ fold
      after (read (take number pieces)) (encode_utf8 x)
  after_literal number x is =
      let (p, same) = same_at number x is in
      ap read p.more ∙ read_more (take number pieces) p.piece ∙ same.read (read (take number pieces))

  -- the bytes of the pieces from a literal on begin with its bytes
  back_literal : (number x hash len : ℕ) → get_or tokens number AnyChar ≡ Literal x
      → (length (encode_utf8_all (concat (drop (suc number) pieces))) ≡ len) ×
      (hash_back (encode_utf8_all (concat (drop (suc number) pieces))) ≡ hash)
      → (length (encode_utf8_all (concat (drop number pieces))) ≡ len + length (encode_utf8 x))
      × (hash_back (encode_utf8_all (concat (drop number pieces))) ≡ fold hashed hash (reverse (encode_utf8 x)))
  back_literal number x hash len is (lengths, hashes) =
      let (p, same) = same_at number x is in
      let piece = encode_utf8_all p.piece in
      let rest = encode_utf8_all (concat (drop (suc number) pieces)) in (
        omega (arith, ap length (bytes_from number p), length-append piece rest, same.as_many, lengths),
        ap hash_back (bytes_from number p) ∙ ap (fold hashed 0) (reverse-append piece rest) ∙ fold-append hashed 0
            (reverse rest) (reverse piece)
            ∙ ap (λ h. fold hashed h (reverse piece)) hashes ∙ same.back hash,
      )

  after_recursive : (number : ℕ) → number + 1 < length tokens → get_or tokens number AnyChar ≡ Recursive → read (take number pieces) ≡ start
      → read (take (suc number) pieces) ≡ start
  after_recursive number more is before =
      let p = piece_at o text 0 tokens pieces allowed number (omega arith) in
      let form : HasForm Recursive (drop (suc number) tokens) p.piece = subst (λ t. HasForm t
      (drop (suc number) tokens) p.piece) is p.form in
      ap read p.more ∙ read_more (take number pieces) p.piece ∙ ap (λ c. fold after c (encode_utf8_all p.piece)) before
      ∙ read_recursive p.piece
      (⊎_elim (λ last. absurd (omega (arith, more, ap length last, length-drop (suc number) tokens))) (λ ends. ends) form)

  none_from : (count : ℕ) → length tokens ≡ count → drop count pieces ≡ []
  none_from count counted = drop_all count pieces (omega (arith, as_many o text 0 tokens pieces allowed, counted))

pub start_of : (component : Component) → component.hash ≡ 0 → component.len ≡ 0 → component ≡ start
start_of component hash len = ap₂ (λ h n. component_of h n) hash len
  where
    component_of : ℕ → ℕ → Component
    component_of h n = record { hash = h; len = n }

pub IsReadAt-literal : (pattern : Text) (number x : ℕ) (component : Component) → HasLiteral (chars pattern) number x
    → IsReadAt pattern number component → IsReadAt pattern (number + 1) (fold after component (encode_utf8 x))
unfolding IsReadAt HasLiteral read
IsReadAt-literal pattern number x component literal before =
    subst (λ n. IsReadAt pattern n (fold after component (encode_utf8 x))) (sym (add-one number))
    (λ o tokens text pieces has allowed.
    after_literal o text tokens pieces allowed number x (literal tokens has) ∙ ap (λ c. fold after c (encode_utf8 x))
    (before o tokens text pieces has allowed))

-- after `/` a component starts
pub IsReadAt-separator : (pattern : Text) (number : ℕ) → HasLiteral (chars pattern) number slash → IsReadAt pattern (number + 1) start
unfolding IsReadAt HasLiteral read
IsReadAt-separator pattern number literal =
    subst (λ n. IsReadAt pattern n start) (sym (add-one number))
    (λ o tokens text pieces has allowed.
    after_literal o text tokens pieces allowed number slash (literal tokens has) ∙ ap
    (fold after (read (take number pieces))) (encode_ascii slash (omega arith)))

pub IsReadAt-recursive : (pattern : Text) (number : ℕ) → IsInnerRecursive (chars pattern) number → IsReadAt pattern number start
    → IsReadAt pattern (number + 1) start
unfolding IsReadAt IsInnerRecursive read
IsReadAt-recursive pattern number recursive before =
    subst (λ n. IsReadAt pattern n start) (sym (add-one number))
    (λ o tokens text pieces has allowed.
    let (more, is) = recursive tokens has in
    after_recursive o text tokens pieces allowed number more is (before o tokens text pieces has allowed))

pub IsReadAt-start : (pattern : Text) → IsReadAt pattern 0 start
unfolding IsReadAt
IsReadAt-start pattern = λ o tokens text pieces has allowed. refl

-- the bytes of the pieces before a number, and of those from it on
abbrev front_of : (number : ℕ) → List Text → List ℕ
front_of number pieces = encode_utf8_all (concat (take number pieces))

abbrev back_of : (number : ℕ) → List Text → List ℕ
back_of number pieces = encode_utf8_all (concat (drop number pieces))

parts : (number : ℕ) (pieces : List Text) (bytes : List ℕ) → IsUtf8 bytes → concat pieces ≡ chars bytes
    → bytes ≡ front_of number pieces ++ back_of number pieces
parts number pieces bytes utf8 are =
    sym (encodes-chars bytes utf8) ∙ ap encode_utf8_all (sym are ∙ sym (ap concat (take-append-drop number pieces))
    ∙ concat-append (take number pieces) (drop number pieces))
    ∙ encodes-append (concat (take number pieces)) (concat (drop number pieces))

-- A key that all texts have, given as the bytes of the pieces before a number and from it on, is a key of the pattern.
key_of_parts : (pattern : Text) (number : ℕ) (key : Key)
    → ((o : MatchOptions) (tokens : List Token) (text : Text) (pieces : List Text) → HasTokens (chars pattern) tokens
    → AreAllowed o text 0 tokens pieces
    → IsKeyOf (front_of number pieces ++ back_of number pieces) key)
    → HasKey pattern key
unfolding HasKey
key_of_parts pattern number key here =
    λ o bytes utf8 matches.
    let (tokens, has, match) = tokens_of_match o (chars pattern) (chars bytes) matches in
    let (pieces, are, allowed) = pieces_of_match o tokens (chars bytes) match in
    subst (λ bs. IsKeyOf bs key) (sym (parts number pieces bytes utf8 are)) (here o tokens (chars bytes) pieces has allowed)

pub HasKey-beginning : (pattern : Text) (number : ℕ) (component : Component) → IsReadAt pattern number component
    → HasKey pattern (Beginning component.hash component.len)
unfolding IsReadAt
HasKey-beginning pattern number component before =
    key_of_parts pattern number _ (λ o tokens text pieces has allowed. inl (
      front_of number pieces,
      back_of number
          pieces,
      refl,
      before o tokens text pieces has allowed,
    ))

pub HasKey-separator : (pattern : Text) (number : ℕ) (component : Component) → HasLiteral (chars pattern) number slash
    → IsReadAt pattern number component
    → HasKey pattern (variant.Component component.hash)
unfolding IsReadAt HasLiteral
HasKey-separator pattern number component literal before =
    key_of_parts pattern number _
    (λ o tokens text pieces has allowed.
    inl (
      front_of number pieces,
      back_of number pieces,
      refl,
      subst (λ bs. IsTrue (is_end bs)) (sym (bytes_from_mark o text tokens pieces allowed number slash (omega arith)
          (literal tokens has))) refl,
      ap (λ (c : Component). c.hash) (before o tokens text pieces has allowed),
    ))

pub HasKey-end : (pattern : Text) (count : ℕ) (component : Component) → HasCount (chars pattern) count
    → IsReadAt pattern count component → HasKey pattern (variant.Component component.hash)
unfolding IsReadAt HasCount
HasKey-end pattern count component counted before =
    key_of_parts pattern count _
    (λ o tokens text pieces has allowed.
    inl (
      front_of count pieces,
      back_of count pieces,
      refl,
      subst (λ ps. IsTrue (is_end (encode_utf8_all (concat ps)))) (sym (none_from o text tokens pieces allowed count
          (counted tokens has))) refl,
      ap (λ (c : Component). c.hash) (before o tokens text pieces has allowed),
    ))

pub IsReadBack-end : (pattern : Text) (count : ℕ) → HasCount (chars pattern) count → IsReadBack pattern count 0 0
unfolding IsReadBack HasCount
IsReadBack-end pattern count counted =
    λ o tokens text pieces has allowed.
    subst (λ ps. (length (encode_utf8_all (concat ps)) ≡ 0) × (hash_back (encode_utf8_all (concat ps)) ≡ 0))
    (sym (none_from o text tokens pieces allowed count (counted tokens has))) (refl, refl)

pub IsReadBack-literal : (pattern : Text) (number hash len x : ℕ) → HasLiteral (chars pattern) number x
    → IsReadBack pattern (number + 1) hash len
    → IsReadBack pattern number (fold hashed hash (reverse (encode_utf8 x))) (len + length (encode_utf8 x))
unfolding IsReadBack HasLiteral
IsReadBack-literal pattern number hash len x literal read =
    let next = subst (λ n. IsReadBack pattern n hash len) (add-one number) read in
    λ o tokens text pieces has allowed.
    back_literal o text tokens pieces allowed number x hash len (literal tokens has) (next o tokens text pieces has allowed)

pub HasKey-ending : (pattern : Text) (number hash len : ℕ) → IsReadBack pattern number hash len → HasKey pattern (Ending hash len)
unfolding IsReadBack
HasKey-ending pattern number hash len read =
    key_of_parts pattern number _
    (λ o tokens text pieces has allowed.
    let (lengths, hashes) = read o tokens text pieces has allowed in
    inr (front_of number pieces, back_of number pieces, refl, lengths, hashes))

pub HasKey-extension : (pattern : Text) (number hash len : ℕ) → HasLiteral (chars pattern) number dot
    → IsReadBack pattern (number + 1) hash len
    → HasKey pattern (Extension hash len)
unfolding IsReadBack HasLiteral
HasKey-extension pattern number hash len literal read =
    key_of_parts pattern number _
    (λ o tokens text pieces has allowed.
    let (lengths, hashes) = read o tokens text pieces has allowed in
    inr (
      front_of number pieces,
      back_of (number + 1) pieces,
      ap (λ bs. front_of number pieces ++ bs)
          (subst (λ n. back_of number pieces ≡ dot ∷ back_of n pieces) (sym (add-one number))
          (bytes_from_mark o text tokens pieces allowed number dot (omega arith) (literal tokens has))),
      lengths,
      hashes,
    ))

-- a token of the kind of `**`
kind_recursive : (t : Token) → kind_of t ≡ kind.Recursive → t ≡ Recursive
kind_recursive Recursive is = refl
kind_recursive (Literal c) is = absurd (cc)
kind_recursive AnyChar is = absurd (cc)
kind_recursive AnySequence is = absurd (cc)
kind_recursive (OneOf entries) is = absurd (cc)
kind_recursive (NoneOf entries) is = absurd (cc)

pub IsInnerRecursive-of : (pattern : Text) (tokens : List Token) (number : ℕ) → HasTokens pattern tokens → number + 1 < length tokens
    → kind_of (get_or tokens number AnyChar) ≡ kind.Recursive → IsInnerRecursive pattern number
unfolding IsInnerRecursive
IsInnerRecursive-of pattern tokens number has more is =
    λ others read. subst (λ ts. (number + 1 < length ts) × (get_or ts number AnyChar ≡ Recursive))
    (one_reading pattern tokens others has read)
    (more, kind_recursive (get_or tokens number AnyChar) is)
