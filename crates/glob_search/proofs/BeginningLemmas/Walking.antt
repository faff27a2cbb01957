-- The components of a pattern, walked one after another.
use Rattle.std.proofs.Common.{◌≡◌, ℕ, Bool, true, false, cond, ◌&&◌, inl, inr, ⊎_elim, List, [], ◌∷◌, ◌++◌, map, fold}
use Rattle.std.proofs.Common.{refl, sym, ap, ap₂, ◌∙◌, arith}
use Rattle.std.specs.Prelude.{slice_get}
use Rattle.std.specs.List.{All}
use Rattle.std.specs.Str.{IsUtf8}
use Rattle.std.proofs.lemmas.Bool.{and_parts, cond-true, cond-false}
use Rattle.std.proofs.lemmas.List.{append-nil, append_assoc, map-append}
use Rattle.std.proofs.lemmas.List.Elements.{All-cons, All-head, All-nil, All-tail}
use lib.Utf8.{encode}
use Rattle.glob_text.specs.Pieces.{pieces}
use Rattle.glob_text.specs.Text.{Text}
use Rattle.glob_pattern.specs.Grammar.Characters.{star}
use Rattle.glob_pattern.specs.Matching.Components.{is_recursive}
use Rattle.glob_pattern.specs.declared.options.MatchOptions.{MatchOptions}
use Rattle.glob_search.specs.Searching.{ended, ends_recursive}
use Rattle.glob_search.specs.Private.NodeGrowth.{Added, GrownTo, IsMarked, finished, pushed, walked}
use Rattle.glob_search.specs.Private.Nodes.{IsTree, key_of}
use Rattle.glob_search.specs.declared.beginnings.node.Node.{Node}
use Rattle.glob_search.proofs.BeginningLemmas.Growing.{Grown-then, is-or}
use Rattle.glob_search.proofs.BeginningLemmas.Keys.{key-itself, key-recursive, recursive_is}
use Rattle.glob_search.proofs.BeginningLemmas.Trees.{ends-push, node-at}

pub fold-push : {X Y : Type 0} (f : Y → X → Y) (y : Y) (xs : List X) (x : X) → fold f y (xs ++ x ∷ []) ≡ f (fold f y xs) x
fold-push f y [] x = refl
fold-push f y (z ∷ zs) x = fold-push f (f y z) zs x

pub walked-push : (o : MatchOptions) (ts : List Text) (t : Text) → walked (map (key_of o) (ts ++ t ∷ [])) ≡ pushed
    (walked (map (key_of o) ts)) (key_of o t)
walked-push o ts t = ap walked (map-append (key_of o) ts (t ∷ [])) ∙ fold-push pushed [] (map (key_of o) ts) (key_of o t)

-- one more component only adds
pub pushed-on : (ts : List Text) (t : Text) → (rest : List Text) × (pushed ts t ≡ ts ++ rest)
pushed-on ts t = by_test (ends_recursive ts && is_recursive t)
  where
    by_test : (b : Bool) → (rest : List Text) × (cond b ts (ts ++ t ∷ []) ≡ ts ++ rest)
    by_test true = ([], sym (append-nil ts))
    by_test false = (t ∷ [], refl)

pub finished-on : (ts : List Text) → (rest : List Text) × (finished ts ≡ ts ++ rest)
finished-on ts = by_test (ends_recursive ts)
  where
    by_test : (b : Bool) → (rest : List Text) × (cond b (ts ++ (star ∷ []) ∷ []) ts ≡ ts ++ rest)
    by_test true = ((star ∷ []) ∷ [], refl)
    by_test false = ([], sym (append-nil ts))

-- a tree that grew along a path can go on growing along a longer one
pub GrownTo-then : {A : Type 0} (o : MatchOptions) (old now new : List (Node A)) (front : ℕ → List Text)
    (path further : List Text) (c d : ℕ) (a : GrownTo o old now front path c)
    → ((rest : List Text) × (further ≡ path ++ rest)) → GrownTo o now new a.front' further d → GrownTo o old new front further d
GrownTo-then o old now new front path further c d a on b = record {
  front' = b.front';
  grown = Grown-then o old now new front a.front' b.front' path further on a.grown b.grown;
  there = b.there;
  is = b.is;
}

-- the components are walked to those that are kept
walked-from : (xs : List Text) (t : Text) (us : List Text) → finished (fold pushed (xs ++ t ∷ []) us) ≡ xs ++ ended (t ∷ us)
walked-from xs t [] = by_test (is_recursive t) refl
  where
    by_test : (b : Bool) → is_recursive t ≡ b → finished (xs ++ t ∷ []) ≡ xs ++ ended (t ∷ [])
    by_test true r =
        cond-true (ends_recursive (xs ++ t ∷ [])) _ _ (ends-push xs t ∙ r) ∙ append_assoc xs (t ∷ []) ((star ∷ []) ∷ [])
        ∙ ap (λ ts. xs ++ ts) (sym (cond-true (is_recursive t) (t ∷ (star ∷ []) ∷ []) (t ∷ []) r))
    by_test false r =
        cond-false (ends_recursive (xs ++ t ∷ [])) _ _ (ends-push xs t ∙ r)
        ∙ ap (λ ts. xs ++ ts) (sym (cond-false (is_recursive t) (t ∷ (star ∷ []) ∷ []) (t ∷ []) r))
walked-from xs t (u ∷ us) = by_test (is_recursive t && is_recursive u) refl (walked-from xs t us) (walked-from (xs ++ t ∷ []) u us)
  where
    by_test : (b : Bool) → (is_recursive t && is_recursive u) ≡ b → finished (fold pushed (xs ++ t ∷ []) us) ≡ xs ++ ended (t ∷ us)
        → finished (fold pushed ((xs ++ t ∷ []) ++ u ∷ []) us) ≡ (xs ++ t ∷ []) ++ ended (u ∷ us)
        → finished (fold pushed (pushed (xs ++ t ∷ []) u) us) ≡ xs ++ ended (t ∷ u ∷ us)
    by_test true r skip next =
        let both = and_parts (is_recursive t) (is_recursive u) r in
        let same : t ≡ u = recursive_is t both.0 ∙ sym (recursive_is u both.1) in
        ap (λ ts. finished (fold pushed ts us)) (cond-true (ends_recursive (xs ++ t ∷ []) && is_recursive u) _ _
        (ap (λ b. b && is_recursive u) (ends-push xs t) ∙ r))
        ∙ skip ∙ ap (λ v. xs ++ ended (v ∷ us)) same ∙ ap (λ ts. xs ++ ts)
        (sym (cond-true (is_recursive t && is_recursive u) (ended (u ∷ us)) (t ∷ ended (u ∷ us)) r))
    by_test false r skip next =
        ap (λ ts. finished (fold pushed ts us)) (cond-false (ends_recursive (xs ++ t ∷ []) && is_recursive u) _ _
        (ap (λ b. b && is_recursive u) (ends-push xs t) ∙ r))
        ∙ next ∙ append_assoc xs (t ∷ []) (ended (u ∷ us)) ∙ ap (λ ts. xs ++ ts)
        (sym (cond-false (is_recursive t && is_recursive u) (ended (u ∷ us)) (t ∷ ended (u ∷ us)) r))

pub finished-walked : (ts : List Text) → finished (walked ts) ≡ ended ts
finished-walked [] = refl
finished-walked (t ∷ ts) = walked-from [] t ts

-- the keys have the same `**`
pub keys-ended : (o : MatchOptions) (ts : List Text) → ended (map (key_of o) ts) ≡ map (key_of o) (ended ts)
keys-ended o [] = refl
keys-ended o (t ∷ []) = by_test (is_recursive t) refl
  where
    by_test : (b : Bool) → is_recursive t ≡ b → ended (key_of o t ∷ []) ≡ map (key_of o) (ended (t ∷ []))
    by_test true r =
        cond-true (is_recursive (key_of o t)) _ _ (key-recursive o t ∙ r) ∙ ap (λ s. key_of o t ∷ s ∷ [])
        (sym (key-itself o (star ∷ []) refl))
        ∙ ap (map (key_of o)) (sym (cond-true (is_recursive t) (t ∷ (star ∷ []) ∷ []) (t ∷ []) r))
    by_test false r =
        cond-false (is_recursive (key_of o t)) _ _ (key-recursive o t ∙ r) ∙ ap (map (key_of o))
        (sym (cond-false (is_recursive t) (t ∷ (star ∷ []) ∷ []) (t ∷ []) r))
keys-ended o (t ∷ u ∷ us) = by_test (is_recursive t && is_recursive u) refl (keys-ended o (u ∷ us))
  where
    same : (is_recursive (key_of o t) && is_recursive (key_of o u)) ≡ (is_recursive t && is_recursive u)
    same = ap₂ (λ a b. a && b) (key-recursive o t) (key-recursive o u)

    by_test : (b : Bool) → (is_recursive t && is_recursive u) ≡ b → ended (map (key_of o) (u ∷ us)) ≡ map (key_of o) (ended (u ∷ us))
        → ended (map (key_of o) (t ∷ u ∷ us)) ≡ map (key_of o) (ended (t ∷ u ∷ us))
    by_test true r next =
        cond-true (is_recursive (key_of o t) && is_recursive (key_of o u)) _ _ (same ∙ r) ∙ next
        ∙ ap (map (key_of o)) (sym (cond-true (is_recursive t && is_recursive u) (ended (u ∷ us)) (t ∷ ended (u ∷ us)) r))
    by_test false r next =
        cond-false (is_recursive (key_of o t) && is_recursive (key_of o u)) _ _ (same ∙ r) ∙ ap (λ ts. key_of o t ∷ ts) next
        ∙ ap (map (key_of o)) (sym (cond-false (is_recursive t && is_recursive u) (ended (u ∷ us)) (t ∷ ended (u ∷ us)) r))

star-utf8 : IsUtf8 (star ∷ [])
unfolding encode
star-utf8 = (star ∷ [], (refl, refl))

pub utf8-ended : (ts : List Text) → All IsUtf8 ts → All IsUtf8 (ended ts)
utf8-ended [] u = u
utf8-ended (t ∷ []) u = by_test (is_recursive t)
  where
    by_test : (b : Bool) → All IsUtf8 (cond b (t ∷ (star ∷ []) ∷ []) (t ∷ []))
    by_test true = All-cons IsUtf8 t ((star ∷ []) ∷ []) (All-head IsUtf8 t [] u) (All-cons IsUtf8 (star ∷ []) [] star-utf8 (All-nil IsUtf8))
    by_test false = u
utf8-ended (t ∷ u ∷ us) h = by_test (is_recursive t && is_recursive u) (utf8-ended (u ∷ us) (All-tail IsUtf8 t (u ∷ us) h))
  where
    by_test : (b : Bool) → All IsUtf8 (ended (u ∷ us)) → All IsUtf8 (cond b (ended (u ∷ us)) (t ∷ ended (u ∷ us)))
    by_test true next = next
    by_test false next = All-cons IsUtf8 t (ended (u ∷ us)) (All-head IsUtf8 t (u ∷ us) h) next

-- then the last one is marked
pub added-from : {A : Type 0} (o : MatchOptions) (old now new : List (Node A)) (front : ℕ → List Text) (pattern : Text) (end : ℕ)
    → (a : GrownTo o old now front (finished (walked (map (key_of o) (pieces pattern)))) end) → All IsUtf8
    (pieces pattern) → IsTree o new a.front' → IsMarked now new end
    → Added o old new front pattern
added-from {A} o old now new front pattern end a utf8 tree m =
    let path : finished (walked (map (key_of o) (pieces pattern))) ≡ map (key_of o) (ended (pieces pattern)) =
    finished-walked (map (key_of o) (pieces pattern)) ∙ keys-ended o (pieces pattern) in
    let here : a.front' end ≡ map (key_of o) (ended (pieces pattern)) = a.is ∙ path in
    let last = node-at new end (omega (arith, a.there, m.long)) in
    record {
      front' = a.front';
      tree = tree;
      longer = omega (arith, a.grown.longer, m.long);
      same = a.grown.same;
      utf8 = utf8-ended (pieces pattern) utf8;
      wholes = λ k node found whole. ⊎_elim
          (λ same. inr (ap a.front' same ∙ here))
          (λ ne. inl (a.grown.wholes k node (sym (m.others k ne) ∙ found) whole)) (is-or k end);
      kept = λ k node found whole. let after = a.grown.kept k node found whole in ⊎_elim
          (λ same. (last.0, ap (slice_get new) same ∙ last.1, m.here last.0 last.1))
          (λ ne. (after.0, m.others k ne ∙ after.1, after.2)) (is-or k end);
      begun = λ k lt. ⊎_elim inl (λ r. inr (r.0, sym path ∙ r.1)) (a.grown.begun k (omega (arith, lt, m.long)));
      there = (end, last.0, last.1, m.here last.0 last.1, here);
    }
