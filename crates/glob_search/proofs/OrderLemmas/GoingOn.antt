-- Something is alive in each directory above a directory in which something is alive, and above what is found.
use Rattle.std.proofs.Common.{◌≡◌, true, false, not, ◌⊎◌, ⊎_elim, List, [], ◌∷◌, ◌++◌, flat_map, refl, ap, sym, subst, ◌∙◌}
use Rattle.std.specs.Prelude.{Contains}
use Rattle.std.specs.List.{list_any, list_all}
use Rattle.std.proofs.lemmas.Bool.{false≢true, both_ways}
use Rattle.std.proofs.lemmas.List.{append_assoc, append-nil}
use Rattle.glob_text.specs.Pieces.{pieces}
use Rattle.glob_text.specs.Text.{Text}
use Rattle.glob_tree.specs.Content.{Key}
use Rattle.glob_tree.proofs.ContentLemmas.Membership.{Contains-head, Contains-tail, Contains-cases, Contains-nil, list_any-contains}
use Rattle.glob_search.specs.Searching.{Aim, takes, ended, ends_recursive, components, is_taken, beginnings_from, alive}
use Rattle.glob_search.specs.Searching.{goes_on, is_named, is_listed}
use Rattle.glob_search.proofs.OrderLemmas.Beginnings.{begun, ended-ends}
use Rattle.glob_search.proofs.OrderLemmas.Parts.{Contains-flat_map, flat_map-contains, Contains-map, Contains-filter}
use Rattle.glob_search.proofs.OrderLemmas.Parts.{filter-contains, list_any-some}

pub begins-parts : (front ts : List Text) (b : List Text × Text) → Contains (beginnings_from front ts) b
    → (more rest : List Text) × (b.0 ≡ front ++ more) × (ts ≡ more ++ b.1 ∷ rest)
begins-parts front [] b h = absurd (Contains-nil b h)
begins-parts front (t ∷ ts) b h = ⊎_elim
    (λ same. ([], ts, sym (append-nil front ∙ ap (λ c. c.0) same), ap (λ c. c.1 ∷ ts) same))
    (λ later. let (more, rest, is, parts) = begins-parts (front ++ t ∷ []) ts b later in
    (t ∷ more, rest, is ∙ append_assoc front (t ∷ []) more, ap (λ us. t ∷ us) parts))
    (Contains-cases (front, t) (beginnings_from (front ++ t ∷ []) ts) b h)

begins-contains : (front more : List Text) (t : Text) (rest : List Text) → Contains (beginnings_from front
    (more ++ t ∷ rest)) (front ++ more, t)
begins-contains front [] t rest =
    subst (λ us. Contains (beginnings_from front (t ∷ rest)) (us, t)) (sym (append-nil front))
    (Contains-head (front, t) (beginnings_from (front ++ t ∷ []) rest))
begins-contains front (u ∷ us) t rest =
    Contains-tail (front, u) (beginnings_from (front ++ u ∷ []) (us ++ t ∷ rest)) (front ++ u ∷ us, t)
    (subst (λ vs. Contains (beginnings_from (front ++ u ∷ []) (us ++ t ∷ rest)) (vs, t)) (append_assoc front
    (u ∷ []) us) (begins-contains (front ++ u ∷ []) us t rest))

module _ (a : Aim) where
  -- a beginning of components takes the names, and goes on
  pub record Leads (names : Key) : Type 0 where
    pub whole : List Text
    pub front : List Text
    pub next : Text
    pub rest : List Text
    pub is_one : Contains (components a) whole
    pub parts : whole ≡ front ++ next ∷ rest
    pub taken : takes a.options front names ≡ true

  -- the beginnings of all patterns
  begins : List (List Text × Text)
  begins = flat_map (beginnings_from []) (components a)

  pub leads-from : (names : Key) → goes_on a names ≡ true → Leads names
  unfolding begins
  leads-from names h =
      let (b, in', _) = list_any-some (λ b. true) (alive a names) h in
      let (among, taken) = Contains-filter (λ b. takes a.options b.0 names) begins b in' in
      let (ts, one, begins') = Contains-flat_map (beginnings_from []) (components a) b among in
      let (more, rest, front, parts) = begins-parts [] ts b begins' in
      record {
        whole = ts;
        front = more;
        next = b.1;
        rest = rest;
        is_one = one;
        parts = parts;
        taken = ap
            (λ us. takes a.options us names) (sym front) ∙ taken;
      }

  -- each such beginning is alive
  pub in_alive : (names : Key) → (l : Leads names) → Contains (alive a names) (l.front, l.next)
  unfolding begins
  in_alive names l = filter-contains (λ b. takes a.options b.0 names) begins (l.front, l.next)
      (flat_map-contains (beginnings_from []) (components a) l.whole (l.front, l.next) l.is_one
      (subst (λ us. Contains (beginnings_from [] us) (l.front, l.next)) (sym l.parts) (begins-contains [] l.front l.next l.rest)))
      l.taken

  goes_on-from : (names : Key) → Leads names → goes_on a names ≡ true
  goes_on-from names l = list_any-contains (λ b. true) (alive a names) (l.front, l.next) refl (in_alive names l)

  leads-shorter : (names : Key) (whole front more : List Text) (next : Text) (rest : List Text) → Contains
      (components a) whole → whole ≡ front ++ (more ++ next ∷ rest)
      → takes a.options front names ≡ true → Leads names
  leads-shorter names whole front [] next rest one parts taken = record {
    whole = whole;
    front = front;
    next =
        next;
    rest = rest;
    is_one = one;
    parts = parts;
    taken = taken;
  }
  leads-shorter names whole front (u ∷ us) next rest one parts taken = record {
    whole = whole;
    front = front;
    next =
        u;
    rest = us ++ next ∷ rest;
    is_one = one;
    parts = parts;
    taken = taken;
  }

  -- something goes on in each directory above
  pub goes_on-above : (names more : Key) → goes_on a (names ++ more) ≡ true → goes_on a names ≡ true
  goes_on-above names more h =
      let l = leads-from (names ++ more) h in
      let b = begun a.options l.front names more l.taken in
      goes_on-from names (leads-shorter names l.whole b.front b.rest l.next l.rest l.is_one
      (l.parts ∙ ap (λ us. us ++ l.next ∷ l.rest) b.parts ∙ append_assoc b.front b.rest (l.next ∷ l.rest)) b.takes_names)

  -- something goes on in each directory above what a pattern takes
  pub is_taken-above : (names : Key) (n : Text) (ns : Key) → is_taken a (names ++ n ∷ ns) ≡ true → goes_on a names ≡ true
  is_taken-above names n ns h =
      let (ts, one, taken) = list_any-some (λ ts. takes a.options ts (names ++ n ∷ ns)) (components a) h in
      let b = begun a.options ts names (n ∷ ns) taken in
      let (p, _, is) = Contains-map (λ p. ended (pieces p)) a.patterns ts one in
      by_rest ts one (ap ends_recursive (sym is) ∙ ended-ends (pieces p)) b.front b.rest b.parts b.takes_names b.proper
    where
      by_rest : (ts : List Text) → Contains (components a) ts → ends_recursive ts ≡ false → (front rest : List Text)
          → ts ≡ front ++ rest → takes a.options front names ≡ true
          → (rest ≡ [] → (n ∷ ns ≡ []) ⊎ (ends_recursive ts ≡ true)) → goes_on a names ≡ true
      by_rest ts one ends front [] parts taken proper = ⊎_elim (λ e. absurd (cc))
          (λ e. absurd (both_ways (ends_recursive ts) ends e)) (proper refl)
      by_rest ts one ends front (u ∷ us) parts taken proper =
          goes_on-from names (record { whole = ts; front = front; next = u; rest = us; is_one = one; parts = parts; taken = taken })

  -- in a directory that is listed
  pub is_listed-goes_on : (names : Key) → is_listed a names ≡ true → goes_on a names ≡ true
  is_listed-goes_on names = by_alive (alive a names)
    where
      by_alive : (bs : List (List Text × Text)) → not (list_all (is_named a.options) bs) ≡ true → list_any (λ b. true) bs ≡ true
      by_alive [] h = absurd (false≢true h)
      by_alive (b ∷ bs) h = refl
