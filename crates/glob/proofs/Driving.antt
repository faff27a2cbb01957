-- A walk over a tree, which answers the questions.
use Rattle.std.proofs.Common.{◌≡◌, ℕ, ◌+◌, ◌≤◌, Bool, true, false, List, [], ◌∷◌, ◌++◌, Option, Some, None, refl, ap}
use Rattle.std.proofs.Common.{sym, subst, ◌∙◌, arith}
use Rattle.std.proofs.lemmas.Bool.{both_ways}
use Rattle.glob_tree.specs.Content.{Content}
use Rattle.glob_tree.specs.Answers.{IsTold}
use Rattle.glob_walk.specs.Walks.{Mark, Item, Gives, LimitAt, NoMemory}
use Rattle.glob_walk.specs.Questions.{question_units}
use Rattle.glob_walk.specs.Machines.{MachineState, Progress, Saying, AsksLook, AsksList, Says, Ends, StepGoes, HasGiven, listing_of}
use Rattle.glob_walk.specs.Machines.{GivesNext, IsAskedAfter, IsCharged, is_last, item_number, step_units}
use Rattle.glob_walk.specs.Iterating.{Walking, IsAsked, Goes}
use Rattle.glob.specs.Private.Walking.{IsDriven}
use Rattle.glob_walk.proofs.WalkLemmas.Driving.{asked_units}

-- what contracts see of the walk
abbrev pub seen_walk : {X : Type 0} {P : Progress} → X → MachineState P → Walking X P
seen_walk t c = record { tree = t; machine = c }

-- The steps of a walk since an item: each asked a question, and the last question may be open.
pub record Drives {X : Type 0} {P : Progress} (asks : X → ℕ) (tells : X → Option Content) (v : Walking X P) (t : X)
    (c : MachineState P) : Type 0 where
  pub limit : c.limit ≡ v.machine.limit
  pub aim : c.aim ≡ v.machine.aim
  pub grows : v.machine.spent ≤ c.spent
  pub given : c.given ≡ v.machine.given
  pub stays : v.machine.over ≡ true → (c.asked ≡ None) × (c ≡ v.machine) × (t ≡ v.tree)
  pub content : tells t ≡ tells v.tree
  pub asked : asks t + question_units c.asked + v.machine.spent ≡ asks v.tree + c.spent
  pub gave : (x : Content) → IsTold (tells v.tree) x → v.machine.over ≡ false → (given : List Item) × HasGiven
      (listing_of x v.machine.aim) x given v.machine
  pub gives : (x : Content) → IsTold (tells v.tree) x → (all : List Mark) (given : List Item) → HasGiven all x given
      v.machine → HasGiven all x given c

pub Drives-first : {X : Type 0} {P : Progress} (asks : X → ℕ) (tells : X → Option Content) (v : Walking X P)
    → IsDriven tells v.tree v.machine → Drives asks tells v v.tree v.machine
Drives-first asks tells v driven = record {
  limit = refl;
  aim = refl;
  grows = omega arith;
  given = refl;
  stays = λ over. (driven.free, refl, refl);
  content = refl;
  asked = let none : question_units v.machine.asked ≡ 0 = ap question_units driven.free in omega (arith, none);
  gave = driven.gave;
  gives = λ x told all given h. h;
}

-- one more step, after a tree answered the open question
module _ {X : Type 0} {P : Progress} (asks : X → ℕ) (tells : X → Option Content) (v : Walking X P) (t t' : X)
    (c c' : MachineState P) (s : Saying) (n : ℕ)
    (h : Drives asks tells v t c) (same : tells t' ≡ tells t) (untouched : c.asked ≡ None → t' ≡ t)
    (more : asks t' ≡ asks t + question_units c.asked + n)
    (k : StepGoes (IsTold (tells t)) n c s c') where
  told_here : (x : Content) → IsTold (tells v.tree) x → IsTold (tells t) x
  told_here x told = (h.content ∙ told.0, told.1)

  over_here : v.machine.over ≡ true → c.over ≡ true
  over_here over = ap (λ m. m.over) (h.stays over).1 ∙ over

  next : (x : Content) → IsTold (tells v.tree) x → (all : List Mark) (given : List Item) → HasGiven all x given
      v.machine → GivesNext all x given s c'
  next x told all given has = k.gives x (told_here x told) all given (h.gives x told all given has)

  -- a question
  pub Drives-asked : step_units s ≡ 1 → Drives asks tells v t' c'
  Drives-asked question = record {
    limit = k.counts.counts.limit ∙ h.limit;
    aim = k.counts.counts.aim ∙ h.aim;
    grows = omega (arith, h.grows, k.counts.counts.grows);
    given = let none = no_item s question in omega (arith, k.counts.counts.given, h.given, none);
    stays = λ over. let ends : step_units s ≡ 0 = ap step_units (k.counts.counts.stays (over_here over)).0 in absurd
        (omega (arith, question, ends));
    content = same ∙ h.content;
    asked = let asks_one = asked_units s c'.asked k.counts.asks in let spent = charged s question k.counts.charged in
        omega (arith, h.asked, more, asks_one, question, spent);
    gave = h.gave;
    gives = λ x told all given has. keeps s question x all given (next x told all given has);
  }
    where
      no_item : (q : Saying) → step_units q ≡ 1 → item_number q ≡ 0
      no_item AsksLook unit = refl
      no_item (AsksList kinds) unit = refl
      no_item (Says o) unit = absurd (omega (arith, unit))
      no_item Ends unit = refl

      charged : (q : Saying) → step_units q ≡ 1 → IsCharged n c q c' → c'.spent ≡ c.spent + n + 1
      charged AsksLook unit e = e
      charged (AsksList kinds) unit e = e
      charged (Says o) unit e = absurd (omega (arith, unit))
      charged Ends unit e = absurd (omega (arith, unit))

      keeps : (q : Saying) → step_units q ≡ 1 → (x : Content) (all : List Mark) (given : List Item) → GivesNext all x
          given q c' → HasGiven all x given c'
      keeps AsksLook unit x all given has = has
      keeps (AsksList kinds) unit x all given has = has
      keeps (Says o) unit x all given has = absurd (omega (arith, unit))
      keeps Ends unit x all given has = absurd (omega (arith, unit))

  module _ (last : step_units s ≡ 0) where
    -- an item, or the end
    pub Drives-last : Goes asks tells v s (seen_walk t' c')
    Drives-last = record {
      counts = record {
        limit = k.counts.counts.limit ∙ h.limit;
        aim = k.counts.counts.aim ∙ h.aim;
        grows = omega (arith, h.grows, k.counts.counts.grows);
        within = k.counts.counts.within;
        given = omega (arith, k.counts.counts.given, h.given);
        few = k.counts.counts.few;
        ends = k.counts.counts.ends;
        stays = λ over.
            let (ends, stayed) = k.counts.counts.stays (over_here over) in
            (ends, stayed ∙ (h.stays over).1);
      };
      asked = by_saying s last k.counts.charged;
      content = same ∙ h.content;
      stays = λ over. untouched (h.stays over).0 ∙ (h.stays over).2;
      gave = h.gave;
      gives = next;
    }
      where
        by_saying : (q : Saying) → step_units q ≡ 0 → IsCharged n c q c' → IsAsked asks v q (seen_walk t' c')
        by_saying AsksLook item e = absurd (omega (arith, item))
        by_saying (AsksList kinds) item e = absurd (omega (arith, item))
        by_saying (Says (Gives i)) item e = omega (arith, h.asked, more, e)
        by_saying (Says (LimitAt p)) item e = (e.0, omega (arith, h.asked, more, e.0, e.1))
        by_saying (Says NoMemory) item e = omega (arith, h.asked, more, e)
        by_saying Ends item e = omega (arith, h.asked, more, e)

    pub IsDriven-last : IsDriven tells t' c'
    IsDriven-last = record {
      free = free s last k.counts.asks;
      gave = λ x told going.
          let first : IsTold (tells v.tree) x = (sym (same ∙ h.content) ∙ told.0, told.1) in
          let before = h.gave x first (going_first v.machine.over refl going) in
          let all = listing_of x v.machine.aim in
          let (more, has) = given_more s last k.counts.counts.ends going x all before.0 (next x first all before.0 before.1) in
          (more, subst (λ aim. HasGiven (listing_of x aim) x more c') (sym (k.counts.counts.aim ∙ h.aim)) has);
    }
      where
        going_first : (b : Bool) → v.machine.over ≡ b → c'.over ≡ false → v.machine.over ≡ false
        going_first false e going = e
        going_first true e going = absurd (both_ways c'.over going (ap (λ m. m.over) (k.counts.counts.stays (over_here e)).1 ∙ over_here e))

        given_more : (q : Saying) → step_units q ≡ 0 → c'.over ≡ is_last q → c'.over ≡ false → (x : Content)
            (all : List Mark) (given : List Item) → GivesNext all x given q c'
            → (later : List Item) × HasGiven all x later c'
        given_more AsksLook item e going x all given has = absurd (omega (arith, item))
        given_more (AsksList kinds) item e going x all given has = absurd (omega (arith, item))
        given_more (Says (Gives i)) item e going x all given has = (given ++ i ∷ [], has.0)
        given_more (Says (LimitAt p)) item e going x all given has = absurd (both_ways c'.over going e)
        given_more (Says NoMemory) item e going x all given has = absurd (both_ways c'.over going e)
        given_more Ends item e going x all given has = absurd (both_ways c'.over going e)

        free : (q : Saying) → step_units q ≡ 0 → IsAskedAfter q c'.asked → c'.asked ≡ None
        free AsksLook item asks = absurd (omega (arith, item))
        free (AsksList kinds) item asks = absurd (omega (arith, item))
        free (Says o) item asks = asks
        free Ends item asks = asks
