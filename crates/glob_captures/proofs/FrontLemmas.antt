-- The rows before and after one more token, each from the other.
use Rattle.std.proofs.Common.{◌≡◌, ◌≢◌, ℕ, suc, ◌+◌, ◌-◌, ◌<◌, ◌≤◌, ◌↔◌, inl, inr, ⊎_elim, Bool, false, ◌&&◌, ◌||◌, not}
use Rattle.std.proofs.Common.{List, [], ◌∷◌, length, get_or, set, take, drop, map, ◌++◌, IsTrue, refl, sym, ap, subst}
use Rattle.std.proofs.Common.{◌∙◌, arith}
use Rattle.std.proofs.lemmas.Bool.{cases_eq, false≢true}
use Rattle.std.proofs.lemmas.Bool.Decides.{Decides-like, Decides-and, Decides-or}
use Rattle.std.proofs.lemmas.List.{length-map, length-drop, drop_all, take_all, append-nil, get_or-set_same, get_or-set_other}
use Rattle.std.specs.Prelude.{Contains}
use Rattle.std.proofs.lemmas.List.Elements.{Contains-get_or, Contains-push, Contains-append_left, Contains-push_cases}
use Rattle.glob_text.specs.Text.{Text, opens}
use Rattle.glob_pattern.specs.Grammar.Tokens.{Token, shape_of}
use Rattle.glob_pattern.specs.Matching.Splits.{Table}
use Rattle.glob_pattern.specs.Private.Prefixes.{PrefixSplits, HasTaken}
use Rattle.glob_pattern.specs.Private.TextTable.{table_of}
use Rattle.glob_pattern.specs.declared.matcher.Shape.{Shape}
use Rattle.glob_pattern.specs.declared.matcher.Shape.TheVariants.{One, Run, Deep}
use Rattle.glob_pattern.specs.declared.options.MatchOptions.{MatchOptions}
use Rattle.glob_pattern.proofs.PositionLemmas.Alive.{MayEnd, IsAlive-step, PrefixSplits-step}
use Rattle.glob_captures.specs.declared.steps.Form.{Form}
use Rattle.glob_captures.specs.Reaching.{TakeFront, Waits}
use Rattle.glob_captures.specs.Private.Rests.{grows, closes, shape_at, shapes_from, IsFormAt}
use Rattle.glob_captures.specs.Private.Fronts.{Took}

-- which shapes grow
grows-iff : (shape : Shape) → IsTrue (grows shape) ↔ (shape ≢ One)
grows-iff One = ((λ h. absurd (false≢true h)), (λ h. absurd (h refl)))
grows-iff Run = ((λ h e. cc), (λ h. refl))
grows-iff Deep = ((λ h e. cc), (λ h. refl))

-- which pieces may end at a place
ends-iff : (table : Table) (shapes : List Shape) (n k : ℕ) (shape : Shape) (others : List Shape) → drop (n + 1) shapes
    ≡ others → n < length shapes
    → IsTrue (not (closes shape others) || table.opens k) ↔ (shape ≡ Deep → MayEnd table shapes n k)
ends-iff table shapes n k One others is below = ((λ h e. cc), (λ h. refl))
ends-iff table shapes n k Run others is below = ((λ h e. cc), (λ h. refl))
ends-iff table shapes n k Deep [] is below =
    let left : length (drop (n + 1) shapes) ≡ length shapes - (n + 1) = length-drop (n + 1) shapes in
    let none : length (drop (n + 1) shapes) ≡ 0 = ap length is in
    ((λ h e. inl (omega arith)), (λ h. refl))
ends-iff table shapes n k Deep (s ∷ ss) is below =
    let left : length (drop (n + 1) shapes) ≡ length shapes - (n + 1) = length-drop (n + 1) shapes in
    let some : length (drop (n + 1) shapes) ≡ suc (length ss) = ap length is in
    ((λ h e. inr h), (λ h. ⊎_elim (λ e. absurd (omega arith)) (λ o. o) (h refl)))

module _ (o : MatchOptions) (tokens : List Token) (text : Text) (n k : ℕ) (form : Form) (below : n < length tokens)
    (is : IsFormAt tokens n form) (was took : Bool) (fronts : IsTrue was ↔ TakeFront o tokens text n k)
    (taken : IsTrue took ↔ Took o tokens text n k) where
  -- whether the token waits
  pub Waits-step : IsTrue (was || (took && form.grows)) ↔ Waits o tokens text n k
  unfolding TakeFront Waits Took
  Waits-step =
      let table : Table = table_of o tokens text in
      let shapes : List Shape = map shape_of tokens in
      let step = IsAlive-step table shapes n k in
      let many : form.grows ≡ grows (shape_at tokens n) = is.many in
      let more = grows-iff (shape_at tokens n) in
      Decides-like _ step.1 step.0
      (Decides-or was (took && form.grows) fronts
      (Decides-and took form.grows taken ((λ h. more.0 (sym many ∙ h)), (λ h. many ∙ more.1 h))))

  -- whether the tokens up to it take the text
  pub TakeFront-step : IsTrue ((was && form.grows) || (took && (not form.closes || opens text k))) ↔ TakeFront o tokens text (n + 1) k
  unfolding TakeFront Took table_of
  TakeFront-step =
      let table : Table = table_of o tokens text in
      let shapes : List Shape = map shape_of tokens in
      let lt : n < length shapes = omega (arith, length-map tokens shape_of) in
      let step = PrefixSplits-step table shapes n lt k in
      let many : form.grows ≡ grows (shape_at tokens n) = is.many in
      let end : (not form.closes || opens text k) ≡ (not (closes (shape_at tokens n) (shapes_from tokens (n + 1))) ||
      opens text k) = ap (λ x. not x || opens text k) is.ends in
      let more = grows-iff (shape_at tokens n) in
      let ends = ends-iff table shapes n k (shape_at tokens n) (shapes_from tokens (n + 1)) refl lt in
      let next : suc n ≡ n + 1 = omega arith in
      subst (λ m. IsTrue ((was && form.grows) || (took && (not form.closes || opens text k))) ↔ PrefixSplits table shapes m k) next
      (Decides-like _ step.1 step.0
      (Decides-or (was && form.grows) (took && (not form.closes || opens text k))
      (Decides-and was form.grows fronts ((λ h. more.0 (sym many ∙ h)), (λ h. many ∙ more.1 h)))
      (Decides-and took (not form.closes || opens text k) taken ((λ h. ends.0 (sym end ∙ h)), (λ h. end ∙ ends.1 h)))))

-- whether it takes the next character
pub Took-step : (o : MatchOptions) (tokens : List Token) (text : Text) (n k : ℕ) (waits takes : Bool) →
    (IsTrue waits ↔ Waits o tokens text n k) → takes ≡ (table_of o tokens text).takes n k → IsTrue (waits && takes) ↔
    Took o tokens text n (k + 1)
unfolding Waits Took HasTaken
Took-step o tokens text n k waits takes alive same =
    let next : suc k ≡ k + 1 = omega arith in
    subst (λ m. IsTrue (waits && takes) ↔ HasTaken (table_of o tokens text) (map shape_of tokens) n m) next
    (Decides-and waits takes alive ((λ h. sym same ∙ h), (λ h. same ∙ h)))

-- at the start nothing is taken
pub Took-start : (o : MatchOptions) (tokens : List Token) (text : Text) (n : ℕ) → IsTrue false ↔ Took o tokens text n 0
unfolding Took HasTaken
Took-start o tokens text n = ((λ h. absurd (false≢true h)), (λ h. absurd h))

-- no tokens take exactly the empty prefix
pub TakeFront-none : (o : MatchOptions) (tokens : List Token) (text : Text) (k : ℕ) → TakeFront o tokens text 0 k ↔ (k ≡ 0)
unfolding TakeFront PrefixSplits
TakeFront-none o tokens text k = ((λ h. h), (λ h. h))

-- a row up to one more place, after that place was written
pub row_more : (P : ℕ → Type 0) (xs : List Bool) (i : ℕ) (b : Bool) → i < length xs → ((k : ℕ) → k < i → IsTrue
    (get_or xs k false) ↔ P k) → (IsTrue b ↔ P i)
    → (k : ℕ) → k < i + 1 → IsTrue (get_or (set xs i b) k false) ↔ P k
row_more P xs i b room before here k below =
    ⊎_elim
    (λ e. subst (λ j. IsTrue (get_or (set xs i b) j false) ↔ P j) (sym e) (rw (get_or-set_same xs i b false room) here))
    (λ other. rw (get_or-set_other xs i k b false other) (before k (omega arith)))
    (cases_eq k i)

-- and the row after it
pub row_rest : (P : ℕ → Type 0) (xs : List Bool) (i l : ℕ) (b : Bool) → ((k : ℕ) → i ≤ k → k ≤ l → IsTrue (get_or xs k false) ↔ P k)
    → (k : ℕ) → i + 1 ≤ k → k ≤ l → IsTrue (get_or (set xs i b) k false) ↔ P k
row_rest P xs i l b rest k from to =
    let other : k ≢ i = omega arith in rw (get_or-set_other xs i k b false other) (rest k (omega arith) to)

-- what a slice that was written whole leaves in its list
pub written_back : (xs ys : List Bool) (m : ℕ) → length ys ≡ length xs → m ≡ length xs → take m (ys ++ drop (length ys) xs) ≡ ys
written_back xs ys m same all =
    ap (λ zs. take m (ys ++ zs)) (drop_all (length ys) xs (omega arith)) ∙ ap (take m) (append-nil ys) ∙ take_all m ys (omega arith)

-- the numbers listed so far, if one more is listed
pub listed_push : (W : ℕ → Type 0) (xs : List ℕ) (n : ℕ) → ((m : ℕ) → Contains xs m ↔ ((m < n) × W m)) → W n → (m : ℕ)
    → Contains (xs ++ n ∷ []) m ↔ ((m < n + 1) × W m)
listed_push W xs n listed here m = (
  λ h. ⊎_elim
      (λ (old : Contains xs m). let was : (m < n) × W m = (listed m).0 old in let below : m < n + 1 = omega
      (arith, was.0) in (below, was.1))
      (λ (same : n ≡ m). let below : m < n + 1 = omega arith in (below, subst W same here))
      (Contains-push_cases xs n m h),
  λ h. ⊎_elim
      (λ (same : m ≡ n). subst (Contains (xs ++ n ∷ [])) (sym same) (Contains-push xs n))
      (λ (other : m ≢ n). let below : m < n = omega (arith, h.0) in Contains-append_left xs (n ∷ []) m ((listed m).1 (below, h.1)))
      (cases_eq m n),
)

-- the numbers listed so far, if the next is not listed
pub listed_kept : (W : ℕ → Type 0) (xs : List ℕ) (n : ℕ) → ((m : ℕ) → Contains xs m ↔ ((m < n) × W m)) → ¬ (W n) →
    (m : ℕ) → Contains xs m ↔ ((m < n + 1) × W m)
listed_kept W xs n listed none m = (
  λ h. let was : (m < n) × W m = (listed m).0 h in let below : m < n + 1 = omega (arith, was.0) in (below, was.1),
  λ h. ⊎_elim
      (λ (same : m ≡ n). absurd (none (subst W same h.1)))
      (λ (other : m ≢ n). let below : m < n = omega (arith, h.0) in (listed m).1 (below, h.1))
      (cases_eq m n),
)

-- each listed number is below the bound
pub listed_below : (W : ℕ → Type 0) (xs : List ℕ) (n : ℕ) → ((m : ℕ) → Contains xs m ↔ ((m < n) × W m)) → (k d : ℕ)
    → k < length xs → get_or xs k d < n
listed_below W xs n listed k d below = ((listed (get_or xs k d)).0 (Contains-get_or xs k d below)).0
