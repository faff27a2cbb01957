-- A walk whose items are gathered.
use Rattle.std.proofs.Common.{◌≡◌, ℕ, ◌+◌, ◌≤◌, false, Option, Some, None, List, [], ◌∷◌, ◌++◌, length, map, Result}
use Rattle.std.proofs.Common.{refl, ap, sym, subst, ◌∙◌, arith, length-append}
use Rattle.std.proofs.lemmas.List.{map-append}
use Rattle.std.proofs.lemmas.Option.{same_Some}
use Rattle.std.specs.declared.path.buf.PathBuf.{PathBuf}
use Rattle.glob_text.specs.Text.{Text}
use Rattle.glob_walk.specs.Walks.{Mark, Work, Item, IsUpTo, items, Outcome, Gives, LimitAt, NoMemory, outcome}
use Rattle.glob_walk.specs.Walks.{refusal_end, AreItems, IsWalk, IsWalkAsked, HasNoRefusal}
use Rattle.glob_tree.specs.Content.{Content}
use Rattle.glob_tree.specs.Answers.{IsTold}
use Rattle.glob.specs.Private.Walking.{EndsAs}
use Rattle.glob_walk.specs.Iterating.{Walking, Goes}
use Rattle.glob_walk.specs.Machines.{Progress, Says, Ends, IsFresh, HasGiven, GivesNext}
use Rattle.glob_walk.specs.declared.ending.End.{End}
use Rattle.glob_walk.specs.declared.error.GlobError.{GlobError}
use Rattle.glob_walk.specs.declared.ending.End.TheVariants as end
use Rattle.glob_walk.proofs.WalkLemmas.Giving.{upto_cut, upto_end, upto_limit}

-- a whole walk, from what was charged and given of its listing and what is left
module _ {A : Type 0} (ms : List Mark) (limit spent : ℕ) (answers : List (Result (PathBuf A) (GlobError A)))
    (given : List Item) (are : AreItems answers given) where
  IsWalk-done : spent ≤ limit → IsUpTo ms spent given [] → IsWalk ms limit end.Done spent answers
  unfolding IsWalk
  IsWalk-done fits u =
      let (all, costs) = upto_end ms spent given u in
      (omega (arith, fits, costs), costs, are ∙ ap (map Gives) all)

  IsWalk-limit : (path : Text) (rest : List Mark) → spent ≡ limit → IsUpTo ms spent given (Work path ∷ rest)
      → IsWalk ms limit end.Limit spent answers
  unfolding IsWalk
  IsWalk-limit path rest at u =
      let (less, cut) = upto_limit ms limit given path rest (subst (λ n. IsUpTo ms n given (Work path ∷ rest)) at u) in
      (less, at, are ∙ ap (map Gives) cut)

  IsWalk-memory : (rest : List Mark) → IsUpTo ms spent given rest → IsWalk ms limit end.Memory spent answers
  unfolding IsWalk
  IsWalk-memory rest u = (given, are, upto_cut ms spent given rest u)

  -- the last item was not kept
  IsWalk-lost : (item : Item) (rest : List Mark) → IsUpTo ms spent (given ++ item ∷ []) rest → IsWalk ms limit end.Memory spent answers
  unfolding IsWalk
  IsWalk-lost item rest u = (
    given,
    are,
    record { rest = rest; lost = item ∷ []; charged = u; few = omega arith },
  )

-- a walk from its beginning on; only items were gathered
pub record Gathers {X A : Type 0} {P : Progress} (asks : X → ℕ) (tells : X → Option Content) (first : Walking X P)
    (answers : List (Result (PathBuf A) (GlobError A))) (now : Walking X P) : Type 0 where
  pub same : now.machine.limit ≡ first.machine.limit
  pub within : now.machine.spent ≤ first.machine.limit
  pub asked : asks now.tree ≡ asks first.tree + now.machine.spent
  pub content : tells now.tree ≡ tells first.tree
  pub given : List Item
  pub are : AreItems answers given
  pub count : now.machine.given ≡ length answers
  pub few : length answers ≤ now.machine.spent + 1
  pub walk : (c : Content) → IsTold (tells first.tree) c → (ms : List Mark) → HasGiven ms c [] first.machine
      → HasGiven ms c given now.machine

pub Gathers-none : {X A : Type 0} {P : Progress} (asks : X → ℕ) (tells : X → Option Content) (first : Walking X P)
    → IsFresh first.machine.limit first.machine → Gathers {A = A} asks tells first [] first
Gathers-none asks tells first fresh = record {
  same = refl;
  within = omega (arith, fresh.spent);
  asked = omega (arith, fresh.spent);
  content = refl;
  given = [];
  are = refl;
  count = fresh.given;
  few = omega arith;
  walk = λ c told ms begun. begun;
}

module _ {X A : Type 0} {P : Progress} (asks : X → ℕ) (tells : X → Option Content) (first now new : Walking X P)
    (answers : List (Result (PathBuf A) (GlobError A))) (g : Gathers asks tells first answers now) where
  told_here : (c : Content) → IsTold (tells first.tree) c → IsTold (tells now.tree) c
  told_here c told = (g.content ∙ told.0, told.1)

  pub Gathers-item : (answer : Result (PathBuf A) (GlobError A)) (item : Item) → outcome answer ≡ Gives item
      → Goes asks tells now (Says (Gives item)) new
      → Gathers asks tells first (answers ++ answer ∷ []) new
  Gathers-item answer item says goes = record {
    same = goes.counts.limit ∙ g.same;
    within = omega (arith, goes.counts.within, goes.counts.limit, g.same);
    asked = omega (arith, goes.asked, g.asked);
    content = goes.content ∙ g.content;
    given = g.given ++ item ∷ [];
    are = map-append outcome answers (answer ∷ []) ∙ ap (λ xs. xs ++ outcome answer ∷ []) g.are ∙ ap (λ o. map Gives g.given ++ o ∷ []) says
        ∙ sym (map-append Gives g.given (item ∷ []));
    count = omega (arith, goes.counts.given, g.count, length-append answers (answer ∷ []));
    few = omega (arith, goes.counts.given, goes.counts.few, g.count, length-append answers (answer ∷ []));
    walk = λ c told ms begun. (goes.gives c (told_here c told) ms g.given (g.walk c told ms begun)).0;
  }

  no_refusal : HasNoRefusal answers
  unfolding HasNoRefusal
  no_refusal = (g.given, g.are)

  pub Ends-done : Goes asks tells now Ends new → EndsAs asks tells first end.Done new.machine.spent answers new.tree
  unfolding IsWalkAsked
  Ends-done goes = record {
    within = omega (arith, goes.counts.within, goes.counts.limit, g.same);
    asked = omega (arith, goes.asked, g.asked);
    content = goes.content ∙ g.content;
    items = no_refusal;
    few = omega (arith, g.few, goes.counts.grows);
    walk = λ c told ms begun.
        IsWalk-done ms first.machine.limit new.machine.spent answers g.given g.are
        (omega (arith, goes.counts.within, goes.counts.limit, g.same))
        (goes.gives c (told_here c told) ms g.given (g.walk c told ms begun)).0;
  }

  -- an item that was not kept
  pub Ends-memory : (o : Outcome) → asks new.tree + now.machine.spent ≡ asks now.tree + new.machine.spent → Goes asks tells now (Says o) new
      → EndsAs asks tells first end.Memory new.machine.spent answers new.tree
  unfolding IsWalkAsked
  Ends-memory o asked goes = record {
    within = omega (arith, goes.counts.within, goes.counts.limit, g.same);
    asked = omega (arith, asked, g.asked);
    content = goes.content ∙ g.content;
    items = no_refusal;
    few = omega (arith, g.few, goes.counts.grows);
    walk = λ c told ms begun. by_outcome o c ms (goes.gives c (told_here c told) ms g.given (g.walk c told ms begun));
  }
    where
      by_outcome : (o : Outcome) (c : Content) (ms : List Mark) → GivesNext ms c g.given (Says o) new.machine
          → IsWalk ms first.machine.limit end.Memory new.machine.spent answers
      by_outcome (Gives item) c ms k = IsWalk-lost ms first.machine.limit new.machine.spent answers g.given g.are item _ k.0.upto
      by_outcome (LimitAt path) c ms k = IsWalk-memory ms first.machine.limit new.machine.spent answers g.given g.are (Work path ∷ k.1) k.2
      by_outcome NoMemory c ms k = IsWalk-memory ms first.machine.limit new.machine.spent answers g.given g.are k.0 k.1

  ends_limit : (path : Text) → Goes asks tells now (Says (LimitAt path)) new → EndsAs asks tells first end.Limit
      new.machine.spent answers new.tree
  unfolding IsWalkAsked
  ends_limit path goes = record {
    within = omega (arith, goes.counts.within, goes.counts.limit, g.same);
    asked = (goes.asked.0 ∙ goes.counts.limit ∙ g.same, omega (arith, goes.asked.1, g.asked));
    content = goes.content ∙ g.content;
    items = no_refusal;
    few = omega (arith, g.few, goes.counts.grows);
    walk = λ c told ms begun.
        let (at, rest, upto) = goes.gives c (told_here c told) ms g.given (g.walk c told ms begun) in
        IsWalk-limit ms first.machine.limit new.machine.spent answers g.given g.are path rest (at ∙ goes.counts.limit ∙ g.same) upto;
  }

  pub Ends-refusal : (o : Outcome) (e : End) → refusal_end o ≡ Some e → Goes asks tells now (Says o) new
      → EndsAs asks tells first e new.machine.spent answers new.tree
  Ends-refusal (Gives item) e h goes = absurd (cc)
  Ends-refusal (LimitAt path) e h goes = subst (λ x. EndsAs asks tells first x new.machine.spent answers new.tree)
      (same_Some end.Limit e h) (ends_limit path goes)
  Ends-refusal NoMemory e h goes = subst (λ x. EndsAs asks tells first x new.machine.spent answers new.tree)
      (same_Some end.Memory e h) (Ends-memory NoMemory goes.asked goes)

-- an answer that ends nothing is an item
pub item_from_no_end : (o : Outcome) → refusal_end o ≡ None → (item : Item) × (o ≡ Gives item)
item_from_no_end (Gives item) h = (item, refl)
item_from_no_end (LimitAt path) h = absurd (cc)
item_from_no_end NoMemory h = absurd (cc)
