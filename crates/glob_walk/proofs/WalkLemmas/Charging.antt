-- What is left if nothing was charged, and turns one after another.
use Rattle.std.proofs.Common.{◌≡◌, ℕ, ◌+◌, ◌<◌, ◌≤◌, Bool, true, false, cond, List, [], ◌∷◌, ◌++◌, Option, None, Some}
use Rattle.std.proofs.Common.{refl, ap, sym, subst, ◌∙◌, arith}
use Rattle.std.proofs.lemmas.Bool.{cond-true, cond-false}
use Rattle.std.specs.Prelude.{vec_len}
use Rattle.std.specs.List.{All}
use Rattle.std.proofs.lemmas.List.{append_assoc, length-append, map-append}
use Rattle.glob_text.specs.Text.{Text}
use Rattle.glob_walk.specs.Walks.{Mark, Work, Give, Gives, LimitAt, NoMemory}
use Rattle.glob_walk.specs.declared.meter.Meter.{Meter}
use Rattle.glob_tree.specs.Content.{Content}
use Rattle.glob_walk.specs.declared.task.Task.{Task}
use Rattle.glob_walk.specs.declared.task.TaskState.{TaskState}
use Rattle.glob_walk.specs.declared.walker.Walker.{Walker}
use Rattle.glob_walk.specs.declared.machine.Answer.{Answer}
use Rattle.glob_walk.specs.declared.machine.Answer.TheVariants as answer
use Rattle.glob_walk.specs.Questions.{Question, LookAt, ListAt, IsSomeContent, question_path}
use Rattle.glob_walk.specs.Machines.{Saying, AsksLook, AsksList, Says, Ends}
use Rattle.glob_walk.specs.Private.Frames.{is_done}
use Rattle.glob_walk.specs.Private.Queries.{question_of}
use Rattle.glob_walk.specs.Private.Walkers.{walk_left, walk_ready, IsWalkSound}
use Rattle.glob_walk.specs.Answers.{IsAnswered}
use Rattle.glob_walk.specs.Private.Turns.{works, Charges, ChargesNext, BreaksOff, TurnOf, TurnCounts, IfGoing, TurnsTo}
use Rattle.glob_walk.specs.Private.Turns.{said_items, with_task}

pub uncharged : (left new : List Mark) (spent : ℕ) → left ≡ new → Charges left spent new spent
uncharged left new spent e = record { paths = []; front = e; units = omega arith }

-- nothing was charged before memory ran out
pub breaks_off : (left : List Mark) (spent spent' : ℕ) → spent' ≡ spent → BreaksOff left spent spent'
breaks_off left spent spent' same = record { rest = left; charges = record { paths = []; front = refl; units = omega (arith, same) } }

-- a mark that is left or not
pub if_given : (b : Bool) (marks rest : List Mark) (m : Mark) → marks ≡ cond b (m ∷ []) [] → b ≡ true → marks ++ rest ≡ m ∷ rest
if_given b marks rest m e t = ap (λ ms. ms ++ rest) (e ∙ cond-true b (m ∷ []) [] t)

pub if_not_given : (b : Bool) (marks rest : List Mark) (m : Mark) → marks ≡ cond b (m ∷ []) [] → b ≡ false → marks ++ rest ≡ rest
if_not_given b marks rest m e t = ap (λ ms. ms ++ rest) (e ∙ cond-false b (m ∷ []) [] t)

pub Charges-trans : (a b d : List Mark) (s t u : ℕ) → Charges a s b t → Charges b t d u → Charges a s d u
Charges-trans a b d s t u h k = record {
  paths = h.paths ++ k.paths;
  front = h.front ∙ ap (λ ms. works h.paths ++ ms) k.front
      ∙ sym (ap (λ ms. ms ++ d) (map-append Work h.paths k.paths) ∙ append_assoc (works h.paths) (works k.paths) d);
  units = omega (arith, h.units, k.units, length-append h.paths k.paths);
}

pub ChargesNext-after : (a b d : List Mark) (s t u : ℕ) (path : Text) → Charges a s b t → ChargesNext b t path d u
    → ChargesNext a s path d u
ChargesNext-after a b d s t u path h k = record {
  before = k.before;
  charges = Charges-trans a b (Work path ∷ d) s t
      k.before h k.charges;
  unit = k.unit;
}

-- charging the unit of a question is charging a unit
pub Charges-asked : (a d : List Mark) (s u : ℕ) (path : Text) → ChargesNext a s path d u → Charges a s d u
Charges-asked a d s u path h = Charges-trans a (Work path ∷ d) d s h.before u h.charges
    (record { paths = path ∷ []; front = refl; units = h.unit })

-- a turn after others that only charged
pub TurnOf-after : (first mid new : List Mark) (s t u : ℕ) (q : Option Question) (r : Option Saying) → Charges first s
    mid t → TurnOf mid t r q new u → TurnOf first s r q new u
TurnOf-after first mid new s t u q None h k = Charges-trans first mid new s t u h k
TurnOf-after first mid new s t u q (Some AsksLook) h k = ChargesNext-after first mid new s t u (question_path q) h k
TurnOf-after first mid new s t u q (Some (AsksList kinds)) h k = ChargesNext-after first mid new s t u (question_path q) h k
TurnOf-after first mid new s t u q (Some (Says (Gives item))) h k = Charges-trans first mid (Give item ∷ new) s t u h k
TurnOf-after first mid new s t u q (Some (Says (LimitAt p))) h k = record {
  rest = k.rest;
  charges = Charges-trans
      first mid (Work p ∷ k.rest) s t u h k.charges;
}
TurnOf-after first mid new s t u q (Some (Says NoMemory)) h k = record {
  rest = k.rest;
  charges = Charges-trans first
      mid k.rest s t u h k.charges;
}
TurnOf-after first mid new s t u q (Some Ends) h k = (Charges-trans first mid [] s t u h k.0, k.1)

TurnCounts-after : (n : ℕ) (a b d : Meter) (r : Option Saying) → b.spent ≡ a.spent + n → TurnCounts 0 b r d → TurnCounts n a r d
TurnCounts-after n a b d None h k = omega (arith, h, k)
TurnCounts-after n a b d (Some AsksLook) h k = omega (arith, h, k)
TurnCounts-after n a b d (Some (AsksList kinds)) h k = omega (arith, h, k)
TurnCounts-after n a b d (Some (Says (Gives item))) h k = omega (arith, h, k)
TurnCounts-after n a b d (Some (Says (LimitAt p))) h k = (k.0, omega (arith, h, k.1))
TurnCounts-after n a b d (Some (Says NoMemory)) h k = omega (arith, h, k)
TurnCounts-after n a b d (Some Ends) h k = omega (arith, h, k)

pub IfGoing-map : {P Q : Type 0} (r : Option Saying) → (P → Q) → IfGoing r P → IfGoing r Q
IfGoing-map None f h = f h
IfGoing-map (Some AsksLook) f h = f h
IfGoing-map (Some (AsksList kinds)) f h = f h
IfGoing-map (Some (Says (Gives item))) f h = f h
IfGoing-map (Some (Says (LimitAt p))) f h = tt
IfGoing-map (Some (Says NoMemory)) f h = tt
IfGoing-map (Some Ends) f h = f h

-- no turn at all
pub TurnsTo-none : {A : Type 0} (Fits : Content → Type 0) (w : Walker A) → w.query ≡ None → TurnsTo Fits 0 w None w
TurnsTo-none Fits w free = record {
  limit = refl;
  grows = omega arith;
  counts = omega arith;
  plan = refl;
  asks = free;
  ready = omega arith;
  sound = λ c f h. h;
  takes = λ c f h. uncharged (walk_left c w) (walk_left c w) w.meter.spent refl;
}

-- a turn, if more is known about the contents
pub TurnsTo-fits : {A : Type 0} (Fits Fits' : Content → Type 0) (n : ℕ) (a b : Walker A) (t : Option Saying)
    → ((c : Content) → Fits' c → Fits c) → TurnsTo Fits n a t b → TurnsTo Fits' n a t b
TurnsTo-fits Fits Fits' n a b t fit h = record {
  limit = h.limit;
  grows = h.grows;
  counts = h.counts;
  plan = h.plan;
  asks = h.asks;
  ready = h.ready;
  sound = IfGoing-map t (λ going c w. going c (fit c w)) h.sound;
  takes = λ c w x. h.takes c (fit c w) x;
}

-- taking a task off the stack and doing it is a turn, for any proof that the stack is within its bounds
pub TurnsTo-task : {A : Type 0} (Fits : Content → Type 0) (n : ℕ) (a b : Walker A)
    (below : All (λ f. f.component < vec_len a.stack.plan.components) a.stack.frames.items)
    (going : All (λ f. is_done f ≡ false) a.stack.frames.items)
    (t : Task A) (x : TaskState) (r : Option Saying) → a.query ≡ None → a.stack.next ≡ Some t → t.state ≡ x
    → TurnsTo Fits n (with_task t.path t.component x (record a { stack = record a.stack { components = below; going = going } })) r b
    → TurnsTo Fits n a r b
TurnsTo-task {A} Fits n a b below going t x r free next is h =
    let same : with_task t.path t.component x a ≡ a =
    ap (λ y. with_task t.path t.component y a) (sym is) ∙ ap (λ o. record a {
      query = None;
      stack = record a.stack
          { next = o };
    }) (sym next)
    ∙ ap (λ q. record a { query = q }) (sym free) in
    subst (λ (z : Walker A). TurnsTo Fits n z r b) same (record {
      limit = h.limit;
      grows = h.grows;
      counts = h.counts;
      plan = h.plan;
      asks = h.asks;
      ready = h.ready;
      sound = IfGoing-map r (λ keeps c w u. keeps c w (bounded c u)) h.sound;
      takes = λ c w u. h.takes c w (bounded c u);
    })
  where
    bounded : (c : Content) → IsWalkSound c (with_task t.path t.component x a) → IsWalkSound c
        (with_task t.path t.component x (record a { stack = record a.stack { components = below; going = going } }))
    bounded c u = record {
      query = u.query;
      deep = u.deep;
      stack = record { next = u.stack.next; deep = u.stack.deep; frames = u.stack.frames };
    }

-- an equal saying
pub TurnsTo-said : {A : Type 0} (Fits : Content → Type 0) (n : ℕ) (a b : Walker A) (x y : Saying) → y ≡ x
    → TurnsTo Fits n a (Some x) b → TurnsTo Fits n a (Some y) b
TurnsTo-said Fits n a b x y same h = subst (λ s. TurnsTo Fits n a (Some s) b) (sym same) h

-- memory ran out, and nothing was charged
pub TurnsTo-memory : {A : Type 0} (Fits : Content → Type 0) (n : ℕ) (a b : Walker A) → b.meter ≡ a.meter → n ≡ 0
    → b.stack.plan ≡ a.stack.plan → b.query ≡ None
    → TurnsTo Fits n a (Some (Says NoMemory)) b
TurnsTo-memory Fits n a b meter none plan free =
    let same : b.meter.spent ≡ a.meter.spent = ap (λ m. m.spent) meter in
    record {
      limit = ap (λ m. m.limit) meter;
      grows = omega (arith, same);
      counts = omega (arith, none, same);
      plan = plan;
      asks = free;
      ready = tt;
      sound = tt;
      takes = λ c w h. breaks_off (walk_left c a) a.meter.spent b.meter.spent same;
    }

-- a turn after one that went on
pub TurnsTo-after : {A : Type 0} (Fits : Content → Type 0) (Fits' : Content → Type 0) (n : ℕ) (a b d : Walker A) (t : Option Saying)
    → ((c : Content) → Fits c → Fits' c) → TurnsTo Fits n a None b → TurnsTo Fits' 0 b t d → TurnsTo Fits n a t d
TurnsTo-after Fits Fits' n a b d t fit h k = record {
  limit = k.limit ∙ h.limit;
  grows = omega (arith, h.grows, k.grows);
  counts = TurnCounts-after n a.meter b.meter d.meter t h.counts k.counts;
  plan = k.plan ∙ h.plan;
  asks = k.asks;
  ready = let more = h.ready in IfGoing-map t (λ (r : walk_ready d + said_items t + b.meter.spent ≤ walk_ready b +
      d.meter.spent). omega (arith, r, more)) k.ready;
  sound = IfGoing-map t (λ f c w u. f c (fit c w) (h.sound c w u)) k.sound;
  takes = λ c w u. TurnOf-after (walk_left c a) (walk_left c b) (walk_left c d) a.meter.spent b.meter.spent
      d.meter.spent (question_of d.query) t (h.takes c w u)
      (k.takes c (fit c w) (h.sound c w u));
}

-- a content that gave the answer is well formed
pub IsAnswered-content : {A : Type 0} (q : Option Question) (a : Answer A) (c : Content) → IsAnswered q a c → IsSomeContent c
IsAnswered-content q answer.Nothing c h = h
IsAnswered-content (Some (LookAt p)) (answer.Look r) c h = h.0
IsAnswered-content (Some (ListAt kinds p)) (answer.Look r) c h = absurd h
IsAnswered-content None (answer.Look r) c h = absurd h
IsAnswered-content (Some (ListAt kinds p)) (answer.List r) c h = h.0
IsAnswered-content (Some (LookAt p)) (answer.List r) c h = absurd h
IsAnswered-content None (answer.List r) c h = absurd h
