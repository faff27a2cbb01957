-- What a step does to what was given.
use Rattle.std.proofs.Common.{◌≡◌, ℕ, suc, ◌+◌, ◌-◌, ◌<◌, List, [], ◌∷◌, ◌++◌, refl, ap, sym, subst, ◌∙◌, arith, append_assoc}
use Rattle.std.proofs.lemmas.List.{append-nil}
use Rattle.glob_text.specs.Text.{Text}
use Rattle.glob_tree.specs.Content.{Content}
use Rattle.glob_walk.specs.Walks.{Mark, Work, Give, Item, IsUpTo, items, cost, front, Gives, LimitAt, NoMemory}
use Rattle.glob_walk.specs.Walks.{IsCutShort}
use Rattle.glob_walk.specs.Questions.{question_path}
use Rattle.glob_walk.specs.Machines.{MachineState, Progress, IsFresh, Saying, AsksLook, AsksList, Says, Ends, listing_of}
use Rattle.glob_walk.specs.Machines.{StepCounts, HasGiven, GivesNext, AsksNext, Agrees, left_of, step_units}
use Rattle.glob_walk.specs.Private.Turns.{Charges, TakesStep, works}
use Rattle.glob_walk.proofs.ListingLemmas.Marks.{items-append, cost-append, front-append}
use Rattle.glob_walk.proofs.WalkLemmas.Charging.{Charges-asked}
use Rattle.glob_walk.proofs.WalkLemmas.Works.{items-works, cost-works}

module _ (listing : List Mark) (spent : ℕ) (given : List Item) where
  -- one more item
  pub upto_item : (item : Item) (left : List Mark) → IsUpTo listing spent given (Give item ∷ left) → IsUpTo listing
      spent (given ++ item ∷ []) left
  upto_item item left u = record {
    done = u.done ++ Give item ∷ [];
    whole = u.whole ∙ sym (append_assoc u.done (Give item ∷ []) left);
    units = omega (arith, u.units, cost-append u.done (Give item ∷ []));
    same = ap (λ xs. xs ++ item ∷ []) u.same ∙ sym (items-append u.done (Give item ∷ []));
  }

  -- more units
  pub upto_charged : (left after : List Mark) (spent' : ℕ) → IsUpTo listing spent given left → Charges left spent after
      spent' → IsUpTo listing spent' given after
  upto_charged left after spent' u k = record {
    done = u.done ++ works k.paths;
    whole = u.whole ∙ ap (λ xs. u.done ++ xs) k.front ∙ sym (append_assoc u.done (works k.paths) after);
    units = omega (arith, u.units, k.units, cost-append u.done (works k.paths), cost-works k.paths);
    same = u.same ∙ sym (items-append u.done (works k.paths) ∙ ap (λ xs. items u.done ++ xs) (items-works k.paths)
        ∙ append-nil (items u.done));
  }

  -- nothing is left: these were all
  pub upto_end : IsUpTo listing spent given [] → (given ≡ items listing) × (spent ≡ cost listing)
  upto_end u =
      let all : listing ≡ u.done = u.whole ∙ append-nil u.done in
      (u.same ∙ ap items (sym all), u.units ∙ ap cost (sym all))

  -- the next unit does not fit
  pub upto_limit : (path : Text) (rest : List Mark) → IsUpTo listing spent given (Work path ∷ rest) →
      (spent < cost listing) × (given ≡ items (front spent listing))
  upto_limit path rest u =
      let costs : cost listing ≡ cost u.done + suc (cost rest) = ap cost u.whole ∙ cost-append u.done (Work path ∷ rest) in
      let none : spent - cost u.done ≡ 0 = omega (arith, u.units) in
      let cut : front spent listing ≡ u.done =
      ap (front spent) u.whole ∙ front-append spent u.done (Work path ∷ rest) (omega (arith, u.units)) ∙ ap
      (λ n. u.done ++ front n (Work path ∷ rest)) none ∙ append-nil u.done in
      (omega (arith, costs, u.units), u.same ∙ ap items (sym cut))

  -- what was charged is a prefix of the listing
  pub upto_cut : (rest : List Mark) → IsUpTo listing spent given rest → IsCutShort listing spent given
  upto_cut rest u = record {
    rest = rest;
    lost = [];
    charged = subst (λ is. IsUpTo listing spent is rest) (sym (append-nil given)) u;
    few = omega arith;
  }

-- a walk that has done nothing yet has given nothing of its listing
pub given_fresh : {P : Progress} (limit : ℕ) (listing : List Mark) (c : Content) (walk : MachineState P)
    → IsFresh limit walk → listing_of c walk.aim ≡ listing → HasGiven listing c [] walk
given_fresh limit listing c walk fresh aim = record {
  agrees = fresh.agrees c;
  going = fresh.over;
  upto = record { done = []; whole = sym (fresh.whole c ∙ aim); units = fresh.spent; same = refl };
}

module _ {P : Progress} (n : ℕ) (listing : List Mark) (c : Content) (given : List Item) (old new : MachineState P)
    (h : HasGiven listing c given old) where
  charged : (after : List Mark) (spent : ℕ) → Charges (left_of c old) old.spent after spent → IsUpTo listing spent given after
  charged after spent k = upto_charged listing old.spent given (left_of c old) after spent h.upto k

  pub gives_next : (s : Saying) → StepCounts n old s new → Agrees c new → TakesStep (left_of c old) old.spent s
      new.asked (left_of c new) new.spent → GivesNext listing c given s new
  gives_next AsksLook k agrees t = record {
    agrees = agrees;
    going = k.counts.ends;
    upto = charged (left_of c new) new.spent (Charges-asked (left_of c old) (left_of c new) old.spent new.spent
        (question_path new.asked) t);
  }
  gives_next (AsksList kinds) k agrees t = record {
    agrees = agrees;
    going = k.counts.ends;
    upto = charged (left_of c new) new.spent (Charges-asked (left_of c old) (left_of c new) old.spent new.spent
        (question_path new.asked) t);
  }
  gives_next (Says (Gives item)) k agrees t =
      let before : IsUpTo listing new.spent given (Give item ∷ left_of c new) = charged (Give item ∷ left_of c new) new.spent t in
      let upto = upto_item listing new.spent given item (left_of c new) before in
      (record { agrees = agrees; going = k.counts.ends; upto = upto }, before)
  gives_next (Says (LimitAt path)) k agrees t = (k.charged.0, t.rest, charged (Work path ∷ t.rest) new.spent t.charges)
  gives_next (Says NoMemory) k agrees t = (t.rest, charged t.rest new.spent t.charges)
  gives_next Ends k agrees t = (charged [] new.spent t.0, t.1)

  pub asks_next : (s : Saying) → step_units s ≡ 1 → TakesStep (left_of c old) old.spent s new.asked (left_of c new) new.spent
      → AsksNext listing given (question_path new.asked) new.spent (left_of c new)
  asks_next AsksLook unit t = record {
    before = t.before;
    unit = t.unit;
    upto = charged (Work (question_path new.asked)
        ∷ left_of c new) t.before t.charges;
  }
  asks_next (AsksList kinds) unit t = record {
    before = t.before;
    unit = t.unit;
    upto = charged
        (Work (question_path new.asked) ∷ left_of c new) t.before t.charges;
  }
  asks_next (Says o) unit t = absurd (omega (arith, unit))
  asks_next Ends unit t = absurd (omega (arith, unit))
