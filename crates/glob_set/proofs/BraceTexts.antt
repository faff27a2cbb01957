-- Texts of a list, appended to and joined one after another.
use Rattle.std.proofs.Common.{◌≡◌, ℕ, ◌+◌, ◌<◌, List, [], ◌∷◌, ◌++◌, length, get_or, set, map, take, drop, refl, sym}
use Rattle.std.proofs.Common.{ap, ◌∙◌, arith, append_assoc}
use Rattle.std.proofs.lemmas.List.{append-nil, drop_more, length-map, length-take-le, get_or_at, set_at, map_more, map-set, get_or-map}
use Rattle.glob_text.specs.Text.{Text}
use Rattle.glob_set.specs.Braces.{each_with, joined}

-- one more element is changed
pub mapped_more : {X : Type 0} (f : X → X) (xs ys : List X) (i : ℕ) (d y : X) → i < length xs
    → ys ≡ map f (take i xs) ++ drop i xs → y ≡ f (get_or xs i d)
    → set ys i y ≡ map f (take (i + 1) xs) ++ drop (i + 1) xs
mapped_more f xs ys i d y below so_far is =
    let front = map f (take i xs) in
    let long : length front ≡ i = length-map (take i xs) f ∙ length-take-le i xs (omega (arith, below)) in
    ap (λ z. set z i y) (so_far ∙ ap (λ z. front ++ z) (drop_more xs i d below))
    ∙ set_at front (get_or xs i d) (drop (i + 1) xs) y i long
    ∙ ap (λ z. front ++ z ∷ drop (i + 1) xs) is
    ∙ sym (append_assoc front (f (get_or xs i d) ∷ []) (drop (i + 1) xs))
    ∙ sym (ap (λ z. z ++ drop (i + 1) xs) (map_more f xs i d below))

-- the element that is changed next
pub mapped_next : {X : Type 0} (f : X → X) (xs ys : List X) (i : ℕ) (d : X) → i < length xs
    → ys ≡ map f (take i xs) ++ drop i xs → get_or ys i d ≡ get_or xs i d
mapped_next f xs ys i d below so_far =
    let front = map f (take i xs) in
    let long : length front ≡ i = length-map (take i xs) f ∙ length-take-le i xs (omega (arith, below)) in
    ap (λ z. get_or z i d) (so_far ∙ ap (λ z. front ++ z) (drop_more xs i d below))
    ∙ get_or_at front (get_or xs i d) (drop (i + 1) xs) d i long

-- one more first text is joined
pub joined-append : (ts us vs : List Text) → joined (ts ++ us) vs ≡ joined ts vs ++ joined us vs
joined-append [] us vs = refl
joined-append (t ∷ ts) us vs =
    ap (λ z. map (λ v. t ++ v) vs ++ z) (joined-append ts us vs)
    ∙ sym (append_assoc (map (λ v. t ++ v) vs) (joined ts vs) (joined us vs))

-- one more text has something at its end
pub pushed_more : {X : Type 0} (g : X → Text) (end : Text) (start items : List X) (i : ℕ) (d new : X)
    → i < length items → i < length start → g new ≡ g (get_or items i d) ++ end
    → map g items ≡ each_with (take i (map g start)) end ++ drop i (map g start)
    → map g (set items i new) ≡ each_with (take (i + 1) (map g start)) end ++ drop (i + 1) (map g start)
pushed_more g end start items i d new below within pushed so_far =
    let xs = map g start in
    let ys = map g items in
    let long : length xs ≡ length start = length-map start g in
    let lt : i < length xs = omega (arith, within, long) in
    let here : g (get_or items i d) ≡ get_or xs i [] =
    sym (get_or-map g items i d [] below) ∙ mapped_next (λ t. t ++ end) xs ys i [] lt so_far in
    map-set g items i new ∙ mapped_more (λ t. t ++ end) xs ys i [] (g new) lt so_far (pushed ∙ ap (λ z. z ++ end) here)

-- one more first text is before each of the second ones
pub joined_more : {X : Type 0} (f : X → Text) (xs : List X) (us : List Text) (i : ℕ) (x : X) (first : Text) (old new : List Text)
    → i < length xs → x ≡ get_or xs i x → first ≡ f x → old ≡ joined (map f (take i xs)) us
    → new ≡ old ++ map (λ u. first ++ u) us → new ≡ joined (map f (take (i + 1) xs)) us
joined_more f xs us i x first old new below is first_is old_is new_is =
    let front = map f (take i xs) in
    let t = f (get_or xs i x) in
    new_is
    ∙ ap (λ z. z ++ map (λ u. first ++ u) us) old_is
    ∙ ap (λ z. joined front us ++ map (λ u. z ++ u) us) (first_is ∙ ap f is)
    ∙ sym (joined-append front (t ∷ []) us ∙ ap (λ z. joined front us ++ z) (append-nil (map (λ u. t ++ u) us)))
    ∙ sym (ap (λ z. joined z us) (map_more f xs i x below))
