-- A row of answers, one for each place, from the row of the tokens after the first.
use Rattle.std.proofs.Common.{◌≡◌, ℕ, ◌+◌, ◌<◌, ◌↔◌, ⊎_elim, Bool, false, ◌&&◌, ◌||◌, not, List, ◌∷◌, length, get_or}
use Rattle.std.proofs.Common.{set, map, IsTrue, refl, sym, ap₂, subst, ◌∙◌, arith, add-one, drop-cons}
use Rattle.std.proofs.lemmas.Bool.{cases_eq, false≢true}
use Rattle.std.proofs.lemmas.Bool.Decides.{Decides-like, Decides-and, Decides-or}
use Rattle.std.proofs.lemmas.List.{length-set, length-map, get_or-set_same, get_or-set_other}
use Rattle.glob_text.specs.Text.{Text, opens}
use Rattle.glob_pattern.specs.Grammar.Tokens.{Token, shape_of}
use Rattle.glob_pattern.specs.Matching.Splits.{Table, SplitsFrom}
use Rattle.glob_pattern.specs.Private.TextTable.{table_of}
use Rattle.glob_pattern.specs.declared.matcher.Shape.{Shape}
use Rattle.glob_pattern.specs.declared.matcher.Shape.TheVariants.{One}
use Rattle.glob_pattern.specs.declared.options.MatchOptions.{MatchOptions}
use Rattle.glob_captures.specs.declared.steps.Form.{Form}
use Rattle.glob_captures.specs.Private.Rests.{grows, closes, shape_at, shapes_from, IsFormAt, TakesRest, TakesMore, AreRests}
use Rattle.glob_captures.proofs.RestLemmas.More.{More-from_steps, steps-from_More, split-from_ways, ways-from_split, More-at_end}

-- the shapes from a token on begin with its own
pub shapes-at : (tokens : List Token) (n : ℕ) → n < length tokens → shapes_from tokens n ≡ shape_at tokens n ∷ shapes_from tokens (n + 1)
shapes-at tokens n below =
    let lt : n < length (map shape_of tokens) = omega (arith, length-map tokens shape_of) in
    rw (add-one, drop-cons (map shape_of tokens) n One) refl

-- whether more is taken from a place on
pub TakesMore-step : (o : MatchOptions) (tokens : List Token) (text : Text) (n k : ℕ) (rest more ended took : Bool) (form : Form)
    → IsFormAt tokens n form → (IsTrue rest ↔ TakesRest o tokens text (n + 1) (k + 1)) → (IsTrue more ↔ TakesMore o tokens text n (k + 1))
    → ended ≡ opens text (k + 1) → took ≡ (table_of o tokens text).takes n k
    → IsTrue (((rest && (not form.closes || ended)) || (form.grows && more)) && took) ↔ TakesMore o tokens text n k
unfolding TakesRest TakesMore table_of
TakesMore-step o tokens text n k rest more ended took form is rests mores opened taken =
    let table : Table = table_of o tokens text in
    let shape : Shape = shape_at tokens n in
    let others : List Shape = shapes_from tokens (n + 1) in
    let end : (not form.closes || ended) ≡ (not (closes shape others) || table.opens (k + 1)) = ap₂ (λ x y. not x || y) is.ends opened in
    let many : form.grows ≡ grows shape = is.many in
    Decides-like _ (More-from_steps table n shape others k) (steps-from_More table n shape others k)
    (Decides-and ((rest && (not form.closes || ended)) || (form.grows && more)) took
    (Decides-or (rest && (not form.closes || ended)) (form.grows && more)
    (Decides-and rest (not form.closes || ended) rests ((λ h. sym end ∙ h), (λ h. end ∙ h)))
    (Decides-and form.grows more ((λ h. sym many ∙ h), (λ h. many ∙ h)) mores))
    ((λ h. sym taken ∙ h), (λ h. taken ∙ h)))

-- whether the rest is taken from a place on
pub TakesRest-step : (o : MatchOptions) (tokens : List Token) (text : Text) (n k : ℕ) (rest more : Bool) (form : Form)
    → n < length tokens → IsFormAt tokens n form → (IsTrue rest ↔ TakesRest o tokens text (n + 1) k) →
    (IsTrue more ↔ TakesMore o tokens text n k)
    → IsTrue (more || (form.grows && rest)) ↔ TakesRest o tokens text n k
unfolding TakesRest TakesMore
TakesRest-step o tokens text n k rest more form below is rests mores =
    let table : Table = table_of o tokens text in
    let shape : Shape = shape_at tokens n in
    let others : List Shape = shapes_from tokens (n + 1) in
    let many : form.grows ≡ grows shape = is.many in
    let at : shapes_from tokens n ≡ shape ∷ others = shapes-at tokens n below in
    Decides-like _
    (λ ways. subst (λ ss. SplitsFrom table n ss k) (sym at) (split-from_ways table n shape others k ways))
    (λ split. ways-from_split table n shape others k (subst (λ ss. SplitsFrom table n ss k) at split))
    (Decides-or more (form.grows && rest) mores (Decides-and form.grows rest ((λ h. sym many ∙ h), (λ h. many ∙ h)) rests))

-- at the end nothing more is taken
pub TakesMore-at_end : (o : MatchOptions) (tokens : List Token) (text : Text) (n : ℕ) → IsTrue false ↔ TakesMore o
    tokens text n (length text)
unfolding TakesRest TakesMore table_of
TakesMore-at_end o tokens text n = (
  (λ e. absurd (false≢true e)),
  (λ more. absurd (More-at_end (table_of o tokens text) n (shape_at tokens n)
      (shapes_from tokens (n + 1)) more)),
)

-- the row at the end
pub AreRests-start : (o : MatchOptions) (tokens : List Token) (text : Text) (n : ℕ) (form : Form) (next : List Bool)
    → n < length tokens → IsFormAt tokens n form → AreRests o tokens text (n + 1) 0 next
    → AreRests o tokens text n (length text) (set next (length text) (form.grows && get_or next (length text) false))
AreRests-start o tokens text n form next below is rests =
    let e : ℕ = length text in
    let b : Bool = form.grows && get_or next e false in
    let room : e < length next = omega (arith, rests.many) in
    let here : IsTrue (false || b) ↔ TakesRest o tokens text n e =
    TakesRest-step o tokens text n e (get_or next e false) false form below is (rests.rest e (omega arith)
    (omega arith)) (TakesMore-at_end o tokens text n) in
    record {
      many = length-set next e b ∙ rests.many;
      rest = λ k from to.
          let at : e ≡ k = omega arith in
          subst (λ i. IsTrue (get_or (set next e b) i false) ↔ TakesRest o tokens text n i) at
          (rw (get_or-set_same next e b false room) here);
    }

-- one more place of the row
pub AreRests-more : (o : MatchOptions) (tokens : List Token) (text : Text) (n k : ℕ) (places : List Bool) (b : Bool)
    → k < length text → AreRests o tokens text n (k + 1) places → (IsTrue b ↔ TakesRest o tokens text n k)
    → AreRests o tokens text n k (set places k b)
AreRests-more o tokens text n k places b below rests here =
    let room : k < length places = omega (arith, rests.many) in
    record {
      many = length-set places k b ∙ rests.many;
      rest = λ i from to.
          ⊎_elim
          (λ e. subst (λ j. IsTrue (get_or (set places k b) j false) ↔ TakesRest o tokens text n j) (sym e)
          (rw (get_or-set_same places k b false room) here))
          (λ other. rw (get_or-set_other places k i b false other) (rests.rest i (omega arith) to))
          (cases_eq i k);
    }
