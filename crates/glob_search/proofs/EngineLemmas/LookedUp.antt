-- The entries that were looked up in a directory are all that give something.
use Rattle.std.proofs.Common.{◌≡◌, Bool, true, false, ⊎_elim, List, [], ◌∷◌, ◌++◌, flat_map, map, Option, Some, None}
use Rattle.std.proofs.Common.{refl, ap, ap₂, sym, subst, ◌∙◌}
use Rattle.std.specs.Prelude.{Contains, bytes_eq, filter_map, reverse}
use Rattle.std.specs.List.{cons_option}
use Rattle.std.proofs.lemmas.Bool.{both_ways}
use Rattle.std.proofs.lemmas.List.{append_assoc, map-append, reverse-append}
use Rattle.std.proofs.lemmas.List.Elements.{filter_map-append}
use Rattle.std.proofs.lemmas.Slice.Eq.{bytes_eq-Decides}
use Rattle.glob_text.specs.Text.{Text}
use Rattle.glob_tree.specs.Content.{DirEntry}
use Rattle.glob_tree.proofs.ContentLemmas.Membership.{Contains-filter_map, Contains-head, Contains-tail, Contains-cases, Contains-nil}
use Rattle.glob_search.proofs.EngineLemmas.Lasts.{reverse-last}
use Rattle.glob_search.proofs.EngineLemmas.Rising.{IsLess, Rises, less-not_same, less-trans}
use Rattle.glob_search.proofs.OrderLemmas.Parts.{Contains-map}

-- If the names that are missing from a sublist give nothing, the sublist gives the same as all ascending names.
pub some-give : {Y : Type 0} (give : Text → List Y) (some all : List Text) → Rises some → Rises all →
    ((n : Text) → Contains some n → Contains all n)
    → ((n : Text) → Contains all n → (Contains some n → ⊥) → give n ≡ []) → flat_map give some ≡ flat_map give all
some-give give [] [] up down into none = refl
some-give give (s ∷ some) [] up down into none = absurd (Contains-nil s (into s (Contains-head s some)))
some-give give [] (n ∷ all) up down into none =
    ap₂ (λ xs ys. xs ++ ys) (sym (none n (Contains-head n all) (λ h. Contains-nil n h)))
    (some-give give [] all tt down.1 (λ m h. absurd (Contains-nil m h)) (λ m h out. none m (Contains-tail n all m h) out))
some-give give (s ∷ some) (n ∷ all) up down into none = by_test (bytes_eq s n) refl
    (some-give give some all up.1 down.1) (some-give give (s ∷ some) all up down.1)
  where
    by_test : (b : Bool) → bytes_eq s n ≡ b
        → (((m : Text) → Contains some m → Contains all m) → ((m : Text) → Contains all m → (Contains some m → ⊥)
        → give m ≡ []) → flat_map give some ≡ flat_map give all)
        → (((m : Text) → Contains (s ∷ some) m → Contains all m) → ((m : Text) → Contains all m →
        (Contains (s ∷ some) m → ⊥) → give m ≡ []) → flat_map give (s ∷ some) ≡ flat_map give all)
        → flat_map give (s ∷ some) ≡ flat_map give (n ∷ all)
    by_test true e both later =
        let same : s ≡ n = (bytes_eq-Decides s n).0 e in
        ap₂ (λ xs ys. xs ++ ys) (ap give same) (both
        (λ m h. ⊎_elim (λ first. absurd (less-not_same s m (up.0 m h) (same ∙ first))) (λ in'. in')
        (Contains-cases n all m (into m (Contains-tail s some m h))))
        (λ m h out. none m (Contains-tail n all m h) (λ in'. ⊎_elim (λ first. less-not_same n m (down.0 m h)
        (sym same ∙ first)) out (Contains-cases s some m in'))))
    by_test false e both later =
        let apart : s ≡ n → ⊥ = λ same. differ e ((bytes_eq-Decides s n).1 same) in
        let behind : Contains all s = ⊎_elim (λ first. absurd (apart (sym first))) (λ in'. in') (Contains-cases n all s
        (into s (Contains-head s some))) in
        let less : IsLess n s = down.0 s behind in
        let outside : Contains (s ∷ some) n → ⊥ = λ in'. ⊎_elim apart (λ h. less-not_same n n (less-trans n s n less
        (up.0 n h)) refl) (Contains-cases s some n in') in
        later
        (λ m h. ⊎_elim (λ first. absurd (outside (subst (Contains (s ∷ some)) (sym first) h))) (λ in'. in')
        (Contains-cases n all m (into m h)))
        (λ m h out. none m (Contains-tail n all m h) out)
        ∙ sym (ap (λ xs. xs ++ flat_map give all) (none n (Contains-head n all) outside))
      where
        differ : bytes_eq s n ≡ false → bytes_eq s n ≡ true → ⊥
        differ h k = both_ways (bytes_eq s n) h k

-- if all names ascend, the names that are kept ascend
pub rises-kept : (look : Text → Option DirEntry) → ((n : Text) (e : DirEntry) → look n ≡ Some e → e.0 ≡ n) → (ns : List Text) → Rises ns
    → Rises (map (λ e. e.0) (filter_map look ns))
rises-kept look named [] up = tt
rises-kept look named (n ∷ ns) up = by_first (look n) refl (rises-kept look named ns up.1)
  where
    by_first : (o : Option DirEntry) → look n ≡ o → Rises (map (λ e. e.0) (filter_map look ns)) → Rises (map (λ e. e.0)
        (cons_option o (filter_map look ns)))
    by_first None is rest = rest
    by_first (Some e) is rest = (
      λ m in'.
          let (f, there, same) = Contains-map (λ f. f.0) (filter_map look ns) m in' in
          let (k, from, gives) = Contains-filter_map look ns f there in
          let less : IsLess n k = up.0 k from in
          subst (λ s. IsLess s m) (sym (named n e is)) (subst (IsLess n) (sym (named k f gives) ∙ same) less),
      rest,
    )

filter_map-one : {X Y : Type 0} (f : X → Option Y) (x : X) → reverse (filter_map f (x ∷ [])) ≡ filter_map f (x ∷ [])
filter_map-one {Y = Y} f x = by_first (f x)
  where
    by_first : (o : Option Y) → reverse (cons_option o []) ≡ cons_option o []
    by_first None = refl
    by_first (Some y) = refl

-- what is kept of a list from its end on
pub filter_map-reverse : {X Y : Type 0} (f : X → Option Y) (xs : List X) → reverse (filter_map f (reverse xs)) ≡ filter_map f xs
filter_map-reverse f [] = refl
filter_map-reverse f (x ∷ xs) =
    ap (λ ys. reverse (filter_map f ys)) (reverse-append (x ∷ []) xs)
    ∙ ap reverse (filter_map-append f (reverse xs) (x ∷ []))
    ∙ reverse-append (filter_map f (reverse xs)) (filter_map f (x ∷ []))
    ∙ ap₂ (λ ys zs. ys ++ zs) (filter_map-one f x) (filter_map-reverse f xs)
    ∙ sym (filter_map-append f (x ∷ []) xs)

module _ {X : Type 0} (v : X → Text) (look : Text → Option DirEntry) (all : List DirEntry) (xs ys : List X) (x : X)
    (popped : xs ≡ ys ++ x ∷ []) where
  from-last : reverse (map v xs) ≡ v x ∷ reverse (map v ys)
  from-last = ap (λ zs. reverse (map v zs)) popped ∙ ap reverse (map-append v ys (x ∷ [])) ∙ reverse-last (map v ys) (v x)

  -- a name that is not there
  pub looking-none : (es : List DirEntry) → all ≡ es ++ filter_map look (reverse (map v xs)) → look (v x) ≡ None
      → all ≡ es ++ filter_map look (reverse (map v ys))
  looking-none es before is =
      before ∙ ap (λ ns. es ++ filter_map look ns) from-last ∙ ap (λ o. es ++ cons_option o (filter_map look (reverse (map v ys)))) is

  -- a name that is there
  pub looking-some : (es more : List DirEntry) (e : DirEntry) → all ≡ es ++ filter_map look (reverse (map v xs)) → look
      (v x) ≡ Some e → more ≡ es ++ e ∷ []
      → all ≡ more ++ filter_map look (reverse (map v ys))
  looking-some es more e before is longer =
      before ∙ ap (λ ns. es ++ filter_map look ns) from-last ∙ ap (λ o. es ++ cons_option o (filter_map look (reverse (map v ys)))) is
      ∙ sym (append_assoc es (e ∷ []) (filter_map look (reverse (map v ys)))) ∙ ap (λ zs. zs ++ filter_map look
      (reverse (map v ys))) (sym longer)
