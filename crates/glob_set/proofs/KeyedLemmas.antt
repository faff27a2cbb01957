-- Finding patterns in the hash table of their keys.
use Rattle.std.proofs.Common.{◌≡◌, ℕ, ◌+◌, ◌<◌, ◌⊎◌, inl, inr, List, [], ◌∷◌, ◌++◌, length, get_or, Option, Some, None}
use Rattle.std.proofs.Common.{IsSomeAnd, IsTrue, IsPermutation, Contains, refl, sym, ap, subst, ◌∙◌, arith, ⊎_elim}
use Rattle.std.proofs.lemmas.Bool.{cases_eq, cases_lt}
use Rattle.std.proofs.lemmas.List.Elements.{Contains-append_left, Contains-push}
use Rattle.std.proofs.lemmas.List.Sorted.{Contains-permutation}
use Rattle.glob_set.specs.declared.key.Key.{Key}
use Rattle.glob_set.specs.Private.Components.{slot_of}
use Rattle.glob_set.specs.Private.Keyed.{FoundNumbers, Keeps, KeepsAll, Finds, HasHash, few_or_many, key_slot, IsNext}

pub KeepsAll-same : (found : FoundNumbers) → KeepsAll found found
unfolding KeepsAll
KeepsAll-same found k keeps = keeps

-- a number is added, or has no room
pub KeepsAll-pushed : (old new : FoundNumbers) (number : ℕ) → new.items ≡ old.items ++ number ∷ [] → new.is_full ≡
    old.is_full → KeepsAll old new
unfolding KeepsAll
KeepsAll-pushed old new number more full k keeps =
    ⊎_elim (λ is. inl (full ∙ is)) (λ has. inr (subst (λ ks. Contains ks k) (sym more) (Contains-append_left old.items
    (number ∷ []) k has))) keeps

pub Keeps-pushed : (old new : FoundNumbers) (number : ℕ) → new.items ≡ old.items ++ number ∷ [] → Keeps new number
Keeps-pushed old new number more = inr (subst (λ ks. Contains ks number) (sym more) (Contains-push old.items number))

pub KeepsAll-full : (old new : FoundNumbers) → IsTrue new.is_full → KeepsAll old new
unfolding KeepsAll
KeepsAll-full old new full k keeps = inl full

pub none_of : (many : List ℕ) → length many ≡ 0 → many ≡ []
none_of [] none = refl
none_of (n ∷ ns) none = absurd (omega (arith, none))

pub few_alone : (few many : List ℕ) → many ≡ [] → few_or_many few many ≡ few
few_alone few many none = ap (few_or_many few) none

pub many_alone : (few many : List ℕ) → 0 < length many → few_or_many few many ≡ many
many_alone few [] some = absurd (omega (arith, some))
many_alone few (n ∷ ns) some = refl

pub KeepsAll-then : (a b c : FoundNumbers) → KeepsAll a b → KeepsAll b c → KeepsAll a c
unfolding KeepsAll
KeepsAll-then a b c first second k keeps = second k (first k keeps)

pub KeepsAll-at : (a b : FoundNumbers) (k : ℕ) → KeepsAll a b → Keeps a k → Keeps b k
unfolding KeepsAll
KeepsAll-at a b k all keeps = all k keeps

-- each pattern whose key has the hash is found, once all patterns of its slot have been looked at
pub Finds-one : (keys : List (Option Key)) (hash : ℕ) (found : FoundNumbers)
    → ((number : ℕ) → number < length keys → IsSomeAnd (get_or keys number None) (HasHash hash) → Keeps found number)
    → Finds keys (HasHash hash) found
unfolding Finds
Finds-one keys hash found each number key below is has = each number below (subst (λ o. IsSomeAnd o (HasHash hash)) (sym is) has)

-- what has been found stays
pub keeps_finding : (keys : List (Option Key)) (asked : Key → Type 0) (old new : FoundNumbers) → KeepsAll old new
    → Finds keys asked old → Finds keys asked new
unfolding Finds
keeps_finding keys asked old new all finds number key below is has = KeepsAll-at old new number all (finds number key below is has)

slot_has : (slots hash : ℕ) (key : Option Key) → IsSomeAnd key (HasHash hash) → key_slot key slots ≡ slot_of hash slots
slot_has slots hash None has = absurd has
slot_has slots hash (Some key) has = ap (λ h. slot_of h slots) has

-- the patterns of a slot before the next one in it have been looked at
pub seen_next : (keys : List (Option Key)) (slots hash number next : ℕ) (found : FoundNumbers)
    → ((k : ℕ) → k < number → k < length keys → IsSomeAnd (get_or keys k None) (HasHash hash) → Keeps found k)
    → (IsSomeAnd (get_or keys number None) (HasHash hash) → Keeps found number)
    → IsNext keys slots (slot_of hash slots) (number + 1) next
    → (k : ℕ) → k < next → k < length keys → IsSomeAnd (get_or keys k None) (HasHash hash) → Keeps found k
seen_next keys slots hash number next found seen here is k below within has =
    ⊎_elim
    (λ before. seen k before within has)
    (λ from. ⊎_elim
    (λ same. subst (Keeps found) (sym same) (here (subst (λ i. IsSomeAnd (get_or keys i None) (HasHash hash)) same has)))
    (λ other. absurd (is.between k (omega (arith, from, other)) below (slot_has slots hash (get_or keys k None) has)))
    (cases_eq k number))
    (cases_lt k number)

pub seen_first : (keys : List (Option Key)) (slots hash next : ℕ) (found : FoundNumbers) → IsNext keys slots (slot_of hash slots) 0 next
    → (k : ℕ) → k < next → k < length keys → IsSomeAnd (get_or keys k None) (HasHash hash) → Keeps found k
seen_first keys slots hash next found is k below within has = absurd (is.between k (omega arith) below
    (slot_has slots hash (get_or keys k None) has))

-- what is found for a component or for the extension, in any order
pub Finds-both : (keys : List (Option Key)) (one other : Key → Type 0) (first second sorted : FoundNumbers)
    → Finds keys one first → KeepsAll first second
    → Finds keys other second → IsPermutation second.items sorted.items → sorted.is_full ≡ second.is_full
    → Finds keys (λ key. one key ⊎ other key) sorted
unfolding Finds
Finds-both keys one other first second sorted finds kept more permutation full number key below is has =
    ⊎_elim
    (λ room. inl (full ∙ room))
    (λ here. inr (Contains-permutation second.items sorted.items number permutation here))
    (⊎_elim (λ is_one. KeepsAll-at first second number kept (finds number key below is is_one))
    (λ is_other. more number key below is is_other) has)
