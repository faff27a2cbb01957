-- Looking a text up, before each byte and from its end.
use Rattle.std.proofs.Common.{◌≡◌, ℕ, ◌-◌, ◌<◌, ◌≤◌, Bool, false, List, [], ◌∷◌, ◌++◌, length, take, drop, get_or, fold}
use Rattle.std.proofs.Common.{Option, Some, None, IfSome, IsTrue, refl, sym, ap, subst, ◌∙◌, arith, append-nil}
use Rattle.std.proofs.Common.{append_assoc, length-append}
use Rattle.std.proofs.Math.Seq.{drop-append_seam, get_or-append_seam, take-append_seam}
use Rattle.std.proofs.lemmas.Bool.{eqb-true, true≢false}
use Rattle.glob_text.specs.Characters.{dot, slash}
use Rattle.glob_set.specs.declared.components.Component as component
use Rattle.glob_set.specs.declared.key.Key.{Key}
use Rattle.glob_set.specs.declared.key.Key.TheVariants.{Component, Beginning, Ending, Extension}
use Rattle.glob_set.specs.declared.key.Kinds.{Kinds}
use Rattle.glob_set.specs.Private.Components.{after, start}
use Rattle.glob_set.specs.Private.Keyed.{FoundNumbers, Keeps, KeepsAll, Finds, HasHash, IsReadBefore}
use Rattle.glob_set.specs.Private.Keys.{AreKinds, HasKind, HasLength, IsComponentOf, IsEndingOf, hash_back, hash_of}
use Rattle.glob_set.proofs.KeyedLemmas.{KeepsAll-at}

-- the key is of the last `len` bytes of the text
abbrev pub IsReadBehind : (text : List ℕ) → (len : ℕ) → Key → Type 0
IsReadBehind text len (Component hash) = ⊥
IsReadBehind text len (Beginning hash more) = ⊥
IsReadBehind text len (Ending hash more) = (len ≡ more) × (hash_back (drop (length text - len) text) ≡ hash)
IsReadBehind text len (Extension hash more) =
    (len ≡ more) × (len < length text) × (get_or text (length text - 1 - len) 0 ≡ dot) × (hash_back (drop (length text - len) text) ≡ hash)

-- a text with some bytes, then a byte
record Parted (text front : List ℕ) (byte : ℕ) : Type 0 where
  below : length front < length text
  front_is : take (length front) text ≡ front
  byte_is : get_or text (length front) 0 ≡ byte

parted : (text front : List ℕ) (byte : ℕ) (back : List ℕ) → text ≡ front ++ byte ∷ back → Parted text front byte
parted text front byte back is = record {
  below = omega (arith, ap length is, length-append front (byte ∷ back));
  front_is = ap (take (length front)) is ∙ take-append_seam front (byte ∷ back);
  byte_is = ap (λ t. get_or t (length front) 0) is ∙ get_or-append_seam front byte back 0;
}

last_of : (text front back : List ℕ) (len : ℕ) → text ≡ front ++ back → length back ≡ len → drop (length text - len) text ≡ back
last_of text front back len is lengths =
    let start_is : length text - len ≡ length front = omega (arith, ap length is, length-append front back, lengths) in
    ap (λ n. drop n text) start_is ∙ ap (drop (length front)) is ∙ drop-append_seam front back

module _ (keys : List (Option Key)) where
  -- what is asked for before the first bytes of a text is found
  abbrev pub ComponentsFound : (text : List ℕ) (count : ℕ) → FoundNumbers → Type 0
  ComponentsFound text count found = (i : ℕ) → i < count → Finds keys (IsReadBefore (fold after start (take i text))
      (get_or text i 0)) found

  pub Finds-components : (text : List ℕ) (last : component.Component) (old new : FoundNumbers) → KeepsAll old new
      → ComponentsFound text (length text) old
      → last ≡ fold after start text → Finds keys (HasHash last.hash) new → Finds keys (IsComponentOf text) new
  unfolding Finds
  Finds-components text last old new kept so_far last_is finds number key below is has = of key is has
    where
      here : (front : List ℕ) (byte : ℕ) (back : List ℕ) → text ≡ front ++ byte ∷ back → (key : Key) → get_or keys number None ≡ Some key
          → IsReadBefore (fold after start front) byte key → Keeps new number
      here front byte back split key is asked =
          let p = parted text front byte back split in
          KeepsAll-at old new number kept
          (so_far (length front) p.below number key below is
          (subst (λ f. IsReadBefore (fold after start f) (get_or text (length front) 0) key) (sym p.front_is)
          (subst (λ b. IsReadBefore (fold after start front) b key) (sym p.byte_is) asked)))

      at_end : (front : List ℕ) → text ≡ front ++ [] → (key : Key) → get_or keys number None ≡ Some key →
          (fold after start front).hash ≡ hash_of key → Keeps new number
      at_end front split key is hash =
          finds number key below is (sym hash ∙ ap (λ f. (fold after start f).hash) (sym (split ∙ append-nil front))
          ∙ ap (λ (c : component.Component). c.hash) (sym last_is))

      of : (key : Key) → get_or keys number None ≡ Some key → IsComponentOf text key → Keeps new number
      of (Component hash) is (front, [], split, ends, same) = at_end front split (Component hash) is same
      of (Component hash) is (front, b ∷ bs, split, ends, same) = here front b bs split (Component hash) is (eqb-true b slash ends, same)
      of (Beginning hash len) is (front, [], split, same) = at_end front split (Beginning hash len) is
          (ap (λ (c : component.Component). c.hash) same)
      of (Beginning hash len) is (front, b ∷ bs, split, same) = here front b bs split (Beginning hash len) is same
      of (Ending hash len) is has = absurd has
      of (Extension hash len) is has = absurd has

  module _ (kinds : Kinds) (are : AreKinds keys kinds) where
    -- What is asked for is found, if it has the kind and the hash that are looked up.
    finds_if : (asked : Bool) (hash : ℕ) (Asked : Key → Type 0) (found : FoundNumbers) → (IsTrue asked → Finds keys (HasHash hash) found)
        → ((key : Key) → HasKind kinds key → Asked key → IsTrue asked × HasHash hash key) → Finds keys Asked found
    unfolding Finds AreKinds
    finds_if asked hash Asked found finds follows number key below is has =
        let (is_asked, same) = follows key (subst (λ o. IfSome o (HasKind kinds)) is (are number below)) has in
        finds is_asked number key below is same

    pub Finds-before : (c : component.Component) (byte : ℕ) (asked : Bool) (found : FoundNumbers) → (byte ≡ slash → IsTrue asked)
        → (HasLength kinds.beginnings c.len → IsTrue asked) → (IsTrue asked → Finds keys (HasHash c.hash) found)
        → Finds keys (IsReadBefore c byte) found
    Finds-before c byte asked found ends begins finds = finds_if asked c.hash (IsReadBefore c byte) found finds follows
      where
        follows : (key : Key) → HasKind kinds key → IsReadBefore c byte key → IsTrue asked × HasHash c.hash key
        follows (Component hash) kind (is, same) = (ends is, sym same)
        follows (Beginning hash len) (_, used) is = (
          begins (subst (HasLength kinds.beginnings) (sym (ap (λ (k : component.Component). k.len) is)) used),
          sym
              (ap (λ (k : component.Component). k.hash) is),
        )
        follows (Ending hash len) kind is = absurd is
        follows (Extension hash len) kind is = absurd is

    pub Finds-behind : (text : List ℕ) (len hash : ℕ) (asked : Bool) (found : FoundNumbers) → hash ≡ hash_back
        (drop (length text - len) text)
        → (len < length text → get_or text (length text - 1 - len) 0 ≡ dot → IsTrue asked) → (HasLength kinds.endings len → IsTrue asked)
        → (IsTrue asked → Finds keys (HasHash hash) found) → Finds keys (IsReadBehind text len) found
    Finds-behind text len hash asked found hash_is dotted ends finds = finds_if asked hash (IsReadBehind text len) found finds follows
      where
        follows : (key : Key) → HasKind kinds key → IsReadBehind text len key → IsTrue asked × HasHash hash key
        follows (Component other) kind is = absurd is
        follows (Beginning other more) kind is = absurd is
        follows (Ending other more) (_, used) (is, same) = (ends (subst (HasLength kinds.endings) (sym is) used), sym (hash_is ∙ same))
        follows (Extension other more) kind (is, within, mark, same) = (dotted within mark, sym (hash_is ∙ same))

    -- if no key is of a component, no pattern has to be found by one
    pub Finds-no_component : (text : List ℕ) (found : FoundNumbers) → kinds.components ≡ false → Finds keys (IsComponentOf text) found
    Finds-no_component text found none = finds_if false 0 (IsComponentOf text) found (λ no. absurd (true≢false (sym no))) follows
      where
        follows : (key : Key) → HasKind kinds key → IsComponentOf text key → IsTrue false × HasHash 0 key
        follows (Component hash) kind is = absurd (true≢false (sym kind ∙ none))
        follows (Beginning hash len) (kind, _) is = absurd (true≢false (sym kind ∙ none))
        follows (Ending hash len) kind is = absurd is
        follows (Extension hash len) kind is = absurd is

    -- what is asked for by the last bytes is found, for each number of bytes that there is
    pub Finds-endings : (text : List ℕ) (count : ℕ) (found : FoundNumbers) → ((len : ℕ) → len < count → Finds keys
        (IsReadBehind text len) found)
        → ((len : ℕ) → len ≤ kinds.longest → len ≤ length text → len < count) → Finds keys (IsEndingOf text) found
    unfolding Finds AreKinds
    Finds-endings text count found so_far reach number key below is has = of key is
        (subst (λ o. IfSome o (HasKind kinds)) is (are number below)) has
      where
        of : (key : Key) → get_or keys number None ≡ Some key → HasKind kinds key → IsEndingOf text key → Keeps found number
        of (Component hash) is kind has = absurd has
        of (Beginning hash len) is kind has = absurd has
        of (Ending hash len) is (most, _) (front, back, split, lengths, same) =
            let within : len ≤ length text = omega (arith, ap length split, length-append front back, lengths) in
            so_far len (reach len most within) number (Ending hash len) below is (
              refl,
              ap hash_back
                  (last_of text front back len split lengths) ∙ same,
            )
        of (Extension hash len) is most (front, back, split, lengths, same) =
            let p = parted text front dot back split in
            let long = length-append front (dot ∷ back) in
            let before : length text - 1 - len ≡ length front = omega (arith, ap length split, long, lengths) in
            let last = last_of text (front ++ dot ∷ []) back len (split ∙ sym (append_assoc front (dot ∷ []) back)) lengths in
            so_far len (reach len most (omega (arith, ap length split, long, lengths))) number (Extension hash len) below is
            (refl, omega (arith, ap length split, long, lengths), ap (λ n. get_or text n 0) before ∙ p.byte_is, ap hash_back last ∙ same)
