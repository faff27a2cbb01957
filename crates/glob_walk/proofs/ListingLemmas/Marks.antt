-- What a limit leaves of a walk.
use Rattle.std.proofs.Common.{append_assoc, ◌≡◌, ◌∙◌, ℕ, zero, suc, ◌+◌, ◌-◌, ◌≤◌, List, [], ◌∷◌, ◌++◌, replicate, refl, ap, sym, arith}
use Rattle.glob_text.specs.Text.{Text}
use Rattle.glob_walk.specs.Walks.{Item, Found, Unread, Mark, Work, Give, items, cost, front, paths, IsBeginning}
use Rattle.glob_walk.specs.Walks.{IsCutShort}

pub items-append : (ms ns : List Mark) → items (ms ++ ns) ≡ items ms ++ items ns
items-append [] ns = refl
items-append (Work path ∷ ms) ns = items-append ms ns
items-append (Give item ∷ ms) ns = ap (λ is. item ∷ is) (items-append ms ns)

pub cost-append : (ms ns : List Mark) → cost (ms ++ ns) ≡ cost ms + cost ns
cost-append [] ns = omega arith
cost-append (Work path ∷ ms) ns = omega (arith, cost-append ms ns)
cost-append (Give item ∷ ms) ns = cost-append ms ns

pub items-replicate : (n : ℕ) (path : Text) → items (replicate n (Work path)) ≡ []
items-replicate zero path = refl
items-replicate (suc n) path = items-replicate n path

-- the items within a limit are a prefix of all
pub IsBeginning-front : (n : ℕ) (ms : List Mark) → IsBeginning (items (front n ms)) (items ms)
IsBeginning-front n [] = ([], refl)
IsBeginning-front n (Give item ∷ ms) = let (rest, same) = IsBeginning-front n ms in (rest, ap (λ is. item ∷ is) same)
IsBeginning-front zero (Work path ∷ ms) = (items ms, refl)
IsBeginning-front (suc n) (Work path ∷ ms) = IsBeginning-front n ms

-- the items so far are a prefix of all
pub IsBeginning-append : (ms ns : List Mark) → IsBeginning (items ms) (items (ms ++ ns))
IsBeginning-append ms ns = (items ns, items-append ms ns)

-- if the first marks fit, the limit cuts the later ones
pub front-append : (n : ℕ) (ms ns : List Mark) → cost ms ≤ n → front n (ms ++ ns) ≡ ms ++ front (n - cost ms) ns
front-append n [] ns h = let e : n - 0 ≡ n = omega arith in rw e refl
front-append n (Give item ∷ ms) ns h = ap (λ os. Give item ∷ os) (front-append n ms ns h)
front-append zero (Work path ∷ ms) ns h = absurd (omega (arith, h))
front-append (suc n) (Work path ∷ ms) ns h =
    let e : suc n - suc (cost ms) ≡ n - cost ms = omega arith in
    rw e (ap (λ os. Work path ∷ os) (front-append n ms ns (omega (arith, h))))

pub paths-append : (is js : List Item) → paths (is ++ js) ≡ paths is ++ paths js
paths-append [] js = refl
paths-append (Found path ∷ is) js = ap (λ ps. path ∷ ps) (paths-append is js)
paths-append (Unread path kind ∷ is) js = paths-append is js

-- items without the last one, which may have been lost, are a prefix
pub IsBeginning-cut : (ms : List Mark) (spent : ℕ) (is : List Item) → IsCutShort ms spent is → IsBeginning is (items ms)
IsBeginning-cut ms spent is cut = (
  cut.lost ++ items cut.rest,
  ap items cut.charged.whole ∙ items-append cut.charged.done cut.rest
      ∙ ap (λ js. js ++ items cut.rest) (sym cut.charged.same) ∙ append_assoc is cut.lost (items cut.rest),
)
