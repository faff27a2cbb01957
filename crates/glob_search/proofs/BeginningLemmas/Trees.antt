-- What is alive in a tree of beginnings, at the start and after one more name.
use Rattle.std.proofs.Common.{◌≡◌, ℕ, zero, suc, ◌<◌, true, false, ◌&&◌, ◌⊎◌, inl, inr, ⊎_elim, Some, List, [], ◌∷◌}
use Rattle.std.proofs.Common.{◌++◌, length, string_bytes, refl, ap, sym, subst, ◌∙◌, arith}
use Rattle.std.specs.Prelude.{Contains, slice_get}
use Rattle.std.specs.List.{All, list_any}
use Rattle.std.specs.Str.{chars, IsUtf8}
use Rattle.std.proofs.lemmas.Bool.{false≢true, both_ways, and_parts, and_from, or_cases, or_left, or_right}
use Rattle.std.proofs.lemmas.List.Elements.{All-contains}
use Rattle.std.proofs.lemmas.Option.{slice_get_within, get_or_from_slice_get}
use Rattle.std.proofs.lemmas.Str.{IsUtf8-string_bytes}
use Rattle.glob_text.specs.Text.{Text}
use Rattle.glob_pattern.specs.Computing.Deciding.{is_match}
use Rattle.glob_pattern.specs.Grammar.Characters.{is_wildcard}
use Rattle.glob_pattern.specs.Matching.Components.{is_open, is_recursive}
use Rattle.glob_pattern.specs.declared.options.MatchOptions.{MatchOptions}
use Rattle.glob_tree.specs.Content.{Key}
use Rattle.glob_tree.proofs.ContentLemmas.Membership.{Contains-nil, All-from_contains}
use Rattle.glob_search.specs.Searching.{takes, ends_recursive}
use Rattle.glob_search.specs.Private.NodeNumbers.{IsWithin}
use Rattle.glob_search.specs.Private.Nodes.{Adds, AreTaken, Enlivens, IsKey, IsTree, Steps, StepsFrom, folded, recursive}
use Rattle.glob_search.specs.declared.beginnings.node.Literal.{Literal}
use Rattle.glob_search.specs.declared.beginnings.node.Node.{Node}
use Rattle.glob_search.specs.declared.beginnings.node.Wild.{Wild}
use Rattle.glob_search.proofs.BeginningLemmas.Keys.{folded-literal, literal-folded, literal-key, literal_not_recursive}
use Rattle.glob_search.proofs.BeginningLemmas.LastName.{none-takes, other-last, other-last-none, recursive-last, recursive-last-none}

-- what ends in `**`
pub ends-split : (ts : List Text) → ends_recursive ts ≡ true → (us : List Text) × (t : Text) × (is_recursive t ≡ true) × (ts ≡ us ++ t ∷ [])
ends-split [] e = absurd (false≢true e)
ends-split (t ∷ []) e = ([], t, e, refl)
ends-split (t ∷ u ∷ us) e = let (vs, v, r, is) = ends-split (u ∷ us) e in (t ∷ vs, v, r, ap (λ ws. t ∷ ws) is)

pub ends-push : (ts : List Text) (t : Text) → ends_recursive (ts ++ t ∷ []) ≡ is_recursive t
ends-push [] t = refl
ends-push (u ∷ []) t = refl
ends-push (u ∷ v ∷ vs) t = ends-push (v ∷ vs) t

-- a node is at its number
pub node-at : {X : Type 0} (xs : List X) (k : ℕ) → k < length xs → (x : X) × (slice_get xs k ≡ Some x)
node-at [] k lt = absurd (omega (arith, lt))
node-at (x ∷ xs) zero lt = (x, refl)
node-at (x ∷ xs) (suc k) lt = node-at xs k (omega (arith, lt))

module _ {A : Type 0} (o : MatchOptions) (nodes : List (Node A)) (front : ℕ → List Text) (tree : IsTree o nodes front)
    (within : All (IsWithin (length nodes)) nodes) where
  inside : (k : ℕ) (node : Node A) → slice_get nodes k ≡ Some node → IsWithin (length nodes) node
  inside k node at = All-contains (IsWithin (length nodes)) nodes node within (
    k,
    slice_get_within nodes k node at,
    get_or_from_slice_get nodes k node node at,
  )

  pub literal-front : (k : ℕ) (node : Node A) (l : Literal A) → slice_get nodes k ≡ Some node → Contains node.literals.items l
      → (front l.node ≡ front k ++ string_bytes l.text ∷ []) × IsKey o (string_bytes l.text)
  literal-front k node l at in' = All-contains (λ l. (front l.node ≡ front k ++ string_bytes l.text ∷ []) × IsKey o
      (string_bytes l.text)) node.literals.items l (tree.each k node at).literals in'

  pub literal-within : (k : ℕ) (node : Node A) (l : Literal A) → slice_get nodes k ≡ Some node
      → Contains node.literals.items l → l.node < length nodes
  literal-within k node l at in' = All-contains (λ l. l.node < length nodes) node.literals.items l (inside k node at).literals in'

  pub wild-front : (k : ℕ) (node : Node A) (w : Wild A) → slice_get nodes k ≡ Some node → Contains node.wilds.items w
      → (front w.node ≡ front k ++ w.pattern ∷ []) × (list_any is_wildcard w.pattern ≡ true) × (is_recursive w.pattern ≡ false)
  wild-front k node w at in' =
      All-contains (λ w. (front w.node ≡ front k ++ w.pattern ∷ []) × (list_any is_wildcard w.pattern ≡ true) ×
      (is_recursive w.pattern ≡ false)) node.wilds.items w (tree.each k node at).wilds in'

  pub wild-within : (k : ℕ) (node : Node A) (w : Wild A) → slice_get nodes k ≡ Some node → Contains node.wilds.items w
      → w.node < length nodes
  wild-within k node w at in' = All-contains (λ w. w.node < length nodes) node.wilds.items w (inside k node at).wilds in'

  pub deep-front : (k : ℕ) (node : Node A) (d : ℕ) → slice_get nodes k ≡ Some node → node.deep ≡ Some d →
      (front d ≡ front k ++ recursive ∷ []) × (node.is_deep ≡ false)
  deep-front k node d at is = (tree.each k node at).deep d is

  pub deep-within : (k : ℕ) (node : Node A) (d : ℕ) → slice_get nodes k ≡ Some node → node.deep ≡ Some d → d < length nodes
  deep-within k node d at is = (inside k node at).deep d is

  -- what leads to a number: nothing (it is the first), a component other than `**`, or `**`
  pub record ByOther (c : ℕ) : Type 0 where
    pub parent : ℕ
    pub node : Node A
    pub at : slice_get nodes parent ≡ Some node
    pub text : Text
    pub front_is : front c ≡ front parent ++ text ∷ []
    pub other : is_recursive text ≡ false
    pub leads : ((l : Literal A) × Contains node.literals.items l × (string_bytes l.text ≡ text) × (l.node ≡ c))
        ⊎ ((w : Wild A) × Contains node.wilds.items w × (w.pattern ≡ text) × (w.node ≡ c))

  pub record ByRecursive (c : ℕ) : Type 0 where
    pub parent : ℕ
    pub node : Node A
    pub at : slice_get nodes parent ≡ Some node
    pub front_is : front c ≡ front parent ++ recursive ∷ []
    pub deep : node.deep ≡ Some c
    pub last : node.is_deep ≡ false

  pub led-by : (c : ℕ) → c < length nodes → (c ≡ 0) ⊎ (ByOther c ⊎ ByRecursive c)
  led-by c lt = ⊎_elim inl
      (λ led. inr (⊎_elim
      (λ l. inl (by_literal led.0 led.1 led.2 l.0 l.1 l.2))
      (λ more. ⊎_elim (λ w. inl (by_wild led.0 led.1 led.2 w.0 w.1 w.2)) (λ d. inr (by_deep led.0 led.1 led.2 d)) more) led.3))
      (tree.led c lt)
    where
      by_literal : (k : ℕ) (node : Node A) → slice_get nodes k ≡ Some node → (l : Literal A)
          → Contains node.literals.items l → l.node ≡ c → ByOther c
      by_literal k node at l in' is = let h = literal-front k node l at in' in record {
        parent = k;
        node = node;
        at = at;
        text = string_bytes l.text;
        front_is = ap front (sym is) ∙ h.0;
        other = literal_not_recursive (string_bytes l.text) h.1.literal;
        leads = inl (l, in', refl, is);
      }

      by_wild : (k : ℕ) (node : Node A) → slice_get nodes k ≡ Some node → (w : Wild A) → Contains node.wilds.items w
          → w.node ≡ c → ByOther c
      by_wild k node at w in' is = let h = wild-front k node w at in' in record {
        parent = k;
        node = node;
        at = at;
        text = w.pattern;
        front_is = ap front (sym is) ∙ h.0;
        other = h.2;
        leads = inr (w, in', refl, is);
      }

      by_deep : (k : ℕ) (node : Node A) → slice_get nodes k ≡ Some node → node.deep ≡ Some c → ByRecursive c
      by_deep k node at d = let h = (tree.each k node at).deep c d in record {
        parent = k;
        node = node;
        at = at;
        front_is = h.0;
        deep = d;
        last = h.1;
      }

  -- nothing goes on by `**` from what ends in it
  no-second : (c : ℕ) (up : ByRecursive c) (node : Node A) → slice_get nodes c ≡ Some node → node.is_deep ≡ false → ⊥
  no-second c up node at last =
      false≢true (sym last ∙ (tree.each c node at).ends ∙ ap ends_recursive up.front_is ∙ ends-push (front up.parent) recursive)

  -- at the start
  pub start-taken : (numbers : List ℕ) → 0 < length nodes → Adds (Enlivens nodes 0) [] numbers → AreTaken o front (length nodes) [] numbers
  start-taken numbers some adds = record {
    taken = All-from_contains (λ k. (k < length nodes) × (takes o (front k) [] ≡ true)) numbers
        (λ k in'. ⊎_elim (λ e. absurd (Contains-nil k e)) (⊎_elim
        (λ same. subst (λ j. (j < length nodes) × (takes o (front j) [] ≡ true)) same (some, ap (λ ts. takes o ts []) tree.root))
        (λ d. let h = (tree.each 0 d.0 d.1).deep k d.2 in (
          (inside 0 d.0 d.1).deep k d.2,
          ap (λ ts. takes o ts []) h.0 ∙ recursive-last-none o recursive refl (front 0)
              ∙ ap (λ ts. takes o ts []) tree.root,
        ))) (adds.only k in'));
    each = λ k lt h. ⊎_elim (λ zero. adds.added k (inl (sym zero)))
        (⊎_elim
        (λ up. absurd (both_ways _ (ap (λ ts. takes o ts []) up.front_is ∙ other-last-none o up.text up.other (front up.parent)) h))
        (λ up. by_recursive k h up)) (led-by k lt);
  }
    where
      by_recursive : (k : ℕ) → takes o (front k) [] ≡ true → ByRecursive k → Contains numbers k
      by_recursive k h up =
          let above : takes o (front up.parent) [] ≡ true = sym (ap (λ ts. takes o ts []) up.front_is
          ∙ recursive-last-none o recursive refl (front up.parent)) ∙ h in
          ⊎_elim (λ zero. adds.added k (inr (up.node, subst (λ j. slice_get nodes j ≡ Some up.node) zero up.at, up.deep)))
          (⊎_elim
          (λ two. absurd (both_ways _ (ap (λ ts. takes o ts []) two.front_is ∙ other-last-none o two.text two.other
          (front two.parent)) above))
          (λ two. absurd (no-second up.parent two up.node up.at up.last))) (led-by up.parent
          (slice_get_within nodes up.parent up.node up.at))

  -- after one more name
  module _ (names : Key) (name : Text) (utf8 : IsUtf8 name) (alive next : List ℕ) (taken : AreTaken o front (length nodes) names alive)
      (adds : Adds (StepsFrom nodes o name (folded o.case_sensitive name) alive) [] next) where
    Live : ℕ → Type 0
    Live k = (k < length nodes) × (takes o (front k) (names ++ name ∷ []) ≡ true)

    enliven-live : (c k : ℕ) → Live c → Enlivens nodes c k → Live k
    unfolding Live
    enliven-live c k live e = ⊎_elim (λ same. subst Live same live)
        (λ d. let h = (tree.each c d.0 d.1).deep k d.2 in (
          (inside c d.0 d.1).deep k d.2,
          ap (λ ts. takes o ts (names ++ name ∷ [])) h.0 ∙ recursive-last o recursive refl (front c) names name
              ∙ or_left (takes o (front c) (names ++ name ∷ [])) _ live.1,
        )) e

    parent-live : (number : ℕ) → Contains alive number → (number < length nodes) × (takes o (front number) names ≡ true)
    parent-live number in' = All-contains (λ k. (k < length nodes) × (takes o (front k) names ≡ true)) alive number taken.taken in'

    takes-more : (c p : ℕ) (t : Text) → front c ≡ front p ++ t ∷ [] → is_recursive t ≡ false → takes o (front p) names
        ≡ true → is_match o (chars t) (chars name) ≡ true
        → takes o (front c) (names ++ name ∷ []) ≡ true
    takes-more c p t is other above match =
        ap (λ ts. takes o ts (names ++ name ∷ [])) is ∙ other-last o t other (front p) names name ∙ and_from
        (takes o (front p) names) (is_match o (chars t) (chars name)) above match

    takes-less : (c p : ℕ) (t : Text) → front c ≡ front p ++ t ∷ [] → is_recursive t ≡ false → takes o (front c) (names ++ name ∷ []) ≡ true
        → (takes o (front p) names ≡ true) × (is_match o (chars t) (chars name) ≡ true)
    takes-less c p t is other h =
        and_parts (takes o (front p) names) (is_match o (chars t) (chars name))
        (sym (ap (λ ts. takes o ts (names ++ name ∷ [])) is ∙ other-last o t other (front p) names name) ∙ h)

    -- the key of the name is the literal's text
    key-from : (text : Text) → IsUtf8 text → IsKey o text → is_match o (chars text) (chars name) ≡ true → text ≡ folded
        o.case_sensitive name
    key-from text u key match = sym key.lower ∙ literal-key o text key.literal ∙ sym (literal-folded o text name u utf8 key.literal match)

    match-from : (text : Text) → IsUtf8 text → IsKey o text → text ≡ folded o.case_sensitive name → is_match o
        (chars text) (chars name) ≡ true
    match-from text u key is = folded-literal o text name u utf8 key.literal (sym is ∙ sym key.lower ∙ literal-key o text key.literal)

    step-live : (number k : ℕ) → Contains alive number → Steps nodes o name (folded o.case_sensitive name) number k → Live k
    unfolding Live
    step-live number k in' (node, at, steps) =
        let live = parent-live number in' in
        ⊎_elim
        (λ stays. subst Live stays.2 (live.0, stay number node at stays.0 stays.1 live.1))
        (λ more. ⊎_elim
        (λ l. let h = literal-front number node l.0 at l.1 in
        enliven-live l.0.node k (
          literal-within number node l.0 at l.1,
          takes-more l.0.node number (string_bytes l.0.text) h.0 (literal_not_recursive (string_bytes l.0.text) h.1.literal) live.1
              (match-from (string_bytes l.0.text) (IsUtf8-string_bytes l.0.text) h.1 l.2),
        ) l.3)
        (λ w. let h = wild-front number node w.0 at w.1 in
        enliven-live w.0.node k (
          wild-within number node w.0 at w.1,
          takes-more w.0.node number w.0.pattern h.0 h.2
              live.1 w.2.0,
        ) w.2.1) more) steps
      where
        stay : (number : ℕ) (node : Node A) → slice_get nodes number ≡ Some node → node.is_deep ≡ true → is_open o name
            ≡ true → takes o (front number) names ≡ true
            → takes o (front number) (names ++ name ∷ []) ≡ true
        stay number node at deep open' h =
            let (us, t, r, is) = ends-split (front number) (sym (tree.each number node at).ends ∙ deep) in
            ap (λ ts. takes o ts (names ++ name ∷ [])) is ∙ recursive-last o t r us names name
            ∙ or_right (takes o us (names ++ name ∷ [])) _ (and_from (is_open o name) (takes o (us ++ t ∷ []) names)
            open' (ap (λ ts. takes o ts names) (sym is) ∙ h))

    -- what a component other than `**` leads to, and what becomes alive with it
    other-next : (c k : ℕ) → ByOther c → takes o (front c) (names ++ name ∷ []) ≡ true → Enlivens nodes c k → Contains next k
    other-next c k up h e =
        let (above, match) = takes-less c up.parent up.text up.front_is up.other h in
        let in' = taken.each up.parent (slice_get_within nodes up.parent up.node up.at) above in
        ⊎_elim
        (λ l. let key = literal-front up.parent up.node l.0 up.at l.1 in
        let matched : is_match o (chars (string_bytes l.0.text)) (chars name) ≡ true = ap (λ t. is_match o (chars t)
        (chars name)) l.2 ∙ match in
        adds.added k (
          up.parent,
          in',
          (
            up.node,
            up.at,
            inr (inl (
              l.0,
              l.1,
              key-from (string_bytes l.0.text) (IsUtf8-string_bytes l.0.text) key.1 matched,
              subst
                  (λ m. Enlivens nodes m k) (sym l.3) e,
            )),
          ),
        ))
        (λ w. adds.added k (
          up.parent,
          in',
          (
            up.node,
            up.at,
            inr (inr
                (w.0, w.1, (ap (λ t. is_match o (chars t) (chars name)) w.2 ∙ match, subst (λ m. Enlivens nodes m k) (sym w.3) e))),
          ),
        )) up.leads

    recursive-next : (k : ℕ) → k < length nodes → ByRecursive k → takes o (front k) (names ++ name ∷ []) ≡ true → Contains next k
    recursive-next k lt up h = ⊎_elim skip over
        (or_cases (takes o (front up.parent) (names ++ name ∷ [])) (is_open o name && takes o (front up.parent ++ recursive ∷ []) names)
        (sym (ap (λ ts. takes o ts (names ++ name ∷ [])) up.front_is ∙ recursive-last o recursive refl (front up.parent) names name) ∙ h))
      where
        skip : takes o (front up.parent) (names ++ name ∷ []) ≡ true → Contains next k
        skip above = ⊎_elim
            (λ zero. absurd (both_ways _ (ap (λ ts. takes o ts (names ++ name ∷ [])) (ap front zero ∙ tree.root)
            ∙ none-takes o names name) above))
            (⊎_elim
            (λ two. other-next up.parent k two above (inr (up.node, up.at, up.deep)))
            (λ two. absurd (no-second up.parent two up.node up.at up.last))) (led-by up.parent
            (slice_get_within nodes up.parent up.node up.at))

        over : (is_open o name && takes o (front up.parent ++ recursive ∷ []) names) ≡ true → Contains next k
        over both =
            let (open', later) = and_parts (is_open o name) (takes o (front up.parent ++ recursive ∷ []) names) both in
            let (node, at) = node-at nodes k lt in
            let deep : node.is_deep ≡ true = (tree.each k node at).ends ∙ ap ends_recursive up.front_is ∙ ends-push
            (front up.parent) recursive in
            adds.added k (k, taken.each k lt (ap (λ ts. takes o ts names) up.front_is ∙ later), (node, at, inl (deep, open', refl)))

    pub next-taken : AreTaken o front (length nodes) (names ++ name ∷ []) next
    unfolding Live
    next-taken = record {
      taken = All-from_contains (λ k. (k < length nodes) × (takes o (front k) (names ++ name ∷ []) ≡ true)) next
          (λ k in'. ⊎_elim (λ e. absurd (Contains-nil k e)) (λ s. step-live s.0 k s.1 s.2) (adds.only k in'));
      each = λ k lt h. ⊎_elim
          (λ zero. absurd (both_ways _ (ap (λ ts. takes o ts (names ++ name ∷ [])) (ap front zero ∙ tree.root)
          ∙ none-takes o names name) h))
          (⊎_elim (λ up. other-next k k up h (inl refl)) (λ up. recursive-next k lt up h)) (led-by k lt);
    }

-- what is alive after a name, by the key that it is compared by
pub alive-after : {A : Type 0} (o : MatchOptions) (nodes : List (Node A)) (front : ℕ → List Text) → IsTree o nodes
    front → All (IsWithin (length nodes)) nodes
    → (names : Key) (name key : Text) → IsUtf8 name → key ≡ folded o.case_sensitive name → (alive next : List ℕ)
    → AreTaken o front (length nodes) names alive
    → Adds (StepsFrom nodes o name key alive) [] next → AreTaken o front (length nodes) (names ++ name ∷ []) next
alive-after o nodes front tree within names name key utf8 is alive next taken adds =
    next-taken o nodes front tree within names name utf8 alive next taken
    (subst (λ k. Adds (StepsFrom nodes o name k alive) [] next) is adds)
