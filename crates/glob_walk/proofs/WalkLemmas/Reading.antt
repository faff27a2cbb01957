-- How the components of a pattern are read.
use Rattle.std.proofs.Common.{◌≡◌, ◌≢◌, ℕ, ◌+◌, ◌-◌, ◌<◌, Bool, true, false, cond, ◌==◌, List, [], ◌∷◌, ◌++◌, length}
use Rattle.std.proofs.Common.{take, drop, drop-cons, add-one, suc, get_or, map, Option, Some, None, Result, Ok, Err}
use Rattle.std.proofs.Common.{refl, ap, sym, ◌∙◌, arith, chars, length-append, Bor}
use Rattle.std.specs.Prelude.{IfOk, IfErr, IsErrAnd, MatchOption, slice_index}
use Rattle.std.specs.Result.{result_err}
use Rattle.std.specs.Str.{IsUtf8}
use Rattle.std.proofs.lemmas.Bool.{eqb-true}
use Rattle.glob_text.specs.Text.{Text}
use Rattle.glob_text.specs.Characters.{slash}
use Rattle.glob_text.specs.Pieces.{ends_with}
use Rattle.glob_pattern.specs.Grammar.Units.{IsAccepted}
use Rattle.glob_pattern.specs.Grammar.Faults.{Refuses, Fault}
use Rattle.glob_pattern.specs.declared.error.PatternRefusal.{PatternRefusal}
use Rattle.glob_pattern.specs.declared.error.PatternRefusal.TheVariants as refusal
use Rattle.glob_pattern.proofs.GrammarLemmas.Accepted.{reading_of-Ok, reading_of-Err}
use Rattle.glob_pattern.proofs.GrammarLemmas.Accepting.{tokens_of_accepted}
use Rattle.glob_pattern.proofs.MatchingLemmas.PlainPatterns.{plain_accepted}
use Rattle.glob_tree.proofs.ContentLemmas.Resolving.{front_and_end}
use Rattle.std.proofs.lemmas.Iterator.{YieldsList}
use Rattle.std.proofs.lemmas.Iterator.Consumers.{YieldsList-turn, YieldsList-so_far}
use Rattle.std.proofs.lemmas.List.{take-append-drop}
use Rattle.std.specs.Iterator.{Yields}
use Rattle.std.specs.Option.{option_or, unwrap_or}
use lib.Seq.{take-append_seam, get_or-append_seam}
use Rattle.glob_walk.specs.Components.{components, first_fault, walk_fault, without_end_separator, without_root, is_literal}
use Rattle.glob_walk.specs.Private.Forms.{text_fault}
use Rattle.glob_walk.specs.Walks.{RefusesWith}
use Rattle.glob_walk.proofs.GoalLemmas.Characters.{literal-chars}

-- a text that does not end in a separator is unchanged
pub without_end-plain : (text : Text) → ((front : List ℕ) → text ≢ front ++ slash ∷ []) → text ≡ without_end_separator text
without_end-plain [] h = refl
without_end-plain (b ∷ bs) h = by_test (ends_with slash (b ∷ bs)) refl
  where
    by_test : (e : Bool) → ends_with slash (b ∷ bs) ≡ e → b ∷ bs ≡ cond e (take (length (b ∷ bs) - 1) (b ∷ bs)) (b ∷ bs)
    by_test true e = absurd (h (take (length (b ∷ bs) - 1) (b ∷ bs)) (front_and_end slash (b ∷ bs) e (omega arith)))
    by_test false e = refl

-- a text that ends in a separator loses it
pub without_end-front : (front text : Text) → text ≡ front ++ slash ∷ [] → front ≡ without_end_separator text
without_end-front front text e =
    let n : length text - 1 ≡ length front = omega (arith, ap length e, length-append front (slash ∷ [])) in
    let last : ends_with slash text ≡ true =
    ap (λ i. slice_index text i == slash) n ∙ ap (λ l. slice_index l (length front) == slash) e ∙ ap (λ b. b == slash)
    (get_or-append_seam front slash [] 0) in
    sym (ap (λ b. cond b (take (length text - 1) text) text) last ∙ ap (λ k. take k text) n ∙ ap
    (λ l. take (length front) l) e ∙ take-append_seam front (slash ∷ []))

-- the text without its last separator, as `strip_suffix` returns it
pub without_end-stripped : (text : Bor Text) (r : Option (Bor Text)) → MatchOption r ((front : List ℕ)
    → text.now ≢ front ++ slash ∷ []) (λ x. text.now ≡ x.now ++ slash ∷ [])
    → (unwrap_or r text).now ≡ without_end_separator text.now
without_end-stripped text None h = without_end-plain text.now h
without_end-stripped text (Some x) h = without_end-front x.now text.now h

-- a text that does not begin with a separator is unchanged
pub without_root-plain : (text : Text) → ((rest : List ℕ) → text ≢ slash ∷ rest) → text ≡ without_root text
without_root-plain [] h = refl
without_root-plain (b ∷ bs) h = by_test (b == slash) refl
  where
    by_test : (e : Bool) → (b == slash) ≡ e → b ∷ bs ≡ cond e (drop 1 (b ∷ bs)) (b ∷ bs)
    by_test true e = absurd (h bs (ap (λ x. x ∷ bs) (eqb-true b slash e)))
    by_test false e = refl

-- the text without its first separator, as `strip_prefix` returns it
pub without_root-stripped : (text : Bor Text) (r : Option (Bor Text)) → MatchOption r ((rest : List ℕ)
    → text.now ≢ slash ∷ rest) (λ x. text.now ≡ slash ∷ x.now)
    → (unwrap_or r text).now ≡ without_root text.now
without_root-stripped text None h = without_root-plain text.now h
without_root-stripped text (Some x) h = sym (ap without_root h)

-- an accepted text has no fault
pub text_fault-accepted : (text : Text) → IsAccepted (chars text) → text_fault text ≡ None
text_fault-accepted text accepted =
    let has = tokens_of_accepted (chars text) accepted in
    ap result_err ((reading_of-Ok (chars text) has.0).1 has.1)

-- a refusal reports the fault
pub RefusesWith-text_fault : (text : Text) (e : PatternRefusal) → Refuses (chars text) e → RefusesWith (text_fault text) e
RefusesWith-text_fault text (refusal.Syntax e) h = ap result_err ((reading_of-Err (chars text)
    (record { place = e.pos; message = e.msg.now })).1 h)
RefusesWith-text_fault text refusal.Memory h = tt

pub accepted_result : {T E : Type 0} (text : Text) (r : Result T E) → IfOk r (λ _. IsAccepted (chars text)) → IfOk r
    (λ _. text_fault text ≡ None)
accepted_result text (Ok x) h = text_fault-accepted text h
accepted_result text (Err e) h = h

pub refused_result : {T : Type 0} (text : Text) (r : Result T PatternRefusal) → IfErr r (Refuses (chars text))
    → IfErr r (RefusesWith (text_fault text))
refused_result text (Ok x) h = h
refused_result text (Err e) h = RefusesWith-text_fault text e h

-- a literal text has no fault
pub text_fault-literal : (text : Text) → IsUtf8 text → is_literal text ≡ true → text_fault text ≡ None
text_fault-literal text utf8 h = text_fault-accepted text (plain_accepted (chars text) (literal-chars text utf8 h))

-- the rest of a list from index n on
pub drop_from : {X : Type 0} (xs : List X) (n : ℕ) (x : X) → n < length xs → x ≡ get_or xs n x → drop n xs ≡ x ∷ drop (n + 1) xs
drop_from xs n x below is = rw add-one (drop-cons xs n x below ∙ ap (λ y. y ∷ drop (suc n) xs) (sym is))

-- the texts before and after a text that the iterator yields
pub split_at_turn : {S A : Type 0} {steps : S → Option A → S → Type 0} {shows : A → Text} {s : S} {texts : List Text}
    → YieldsList steps shows s texts
    → (yielded : List A) (t : S) → Yields steps s yielded t → (next : Option A) (u : S) (x : A) → next ≡ Some x → steps t next u
    → (others : List Text) × (texts ≡ map shows yielded ++ shows x ∷ others)
split_at_turn {shows = shows} {texts = texts} reading yielded t read next u x is step =
    let n : ℕ = length yielded in
    let turn = YieldsList-turn reading yielded t read next u x is step in (
      drop (n + 1) texts,
      sym (take-append-drop n texts) ∙ ap (λ zs. take n texts ++ zs) (drop_from texts n (shows x) turn.0 turn.1)
          ∙ ap (λ zs. zs ++ shows x ∷ drop (n + 1) texts) (sym (YieldsList-so_far reading yielded t read)),
    )

fault_past : (o a b r : Option Fault) → (a ≡ None → b ≡ r) → option_or o a ≡ None → option_or o b ≡ r
fault_past None a b r f h = f h
fault_past (Some x) a b r f h = absurd (cc)

-- the first fault comes after texts without one
pub first_fault-append : (front others : List Text) → first_fault front ≡ None → first_fault (front ++ others) ≡ first_fault others
first_fault-append [] others h = refl
first_fault-append (t ∷ ts) others h =
    fault_past (text_fault t) (first_fault ts) (first_fault (ts ++ others)) (first_fault others) (first_fault-append ts others) h

pub first_fault-push : (front : List Text) (t : Text) → first_fault front ≡ None → text_fault t ≡ None → first_fault
    (front ++ t ∷ []) ≡ None
first_fault-push front t h k = first_fault-append front (t ∷ []) h ∙ ap (λ o. option_or o None) k

-- a refusal for the first text with a fault
pub RefusesWith-first : (texts front others : List Text) (t : Text) (e : PatternRefusal) → texts ≡ front ++ t ∷ others
    → first_fault front ≡ None → RefusesWith (text_fault t) e
    → RefusesWith (first_fault texts) e
RefusesWith-first texts front others t (refusal.Syntax e) is h k =
    ap first_fault is ∙ first_fault-append front (t ∷ others) h ∙ ap (λ o. option_or o (first_fault others)) k
RefusesWith-first texts front others t refusal.Memory is h k = tt

-- what follows from the facts about an error holds for the error
pub IfErr-from_known : {T E : Type 0} (r : Result T E) (P Q : E → Type 0) → ((e : E) → P e → Q e) → IsErrAnd r P → IfErr r Q
IfErr-from_known (Ok x) P Q follows known = tt
IfErr-from_known (Err e) P Q follows known = follows e known

-- the whole text is read first
pub walk_fault-whole : (pattern : Text) (e : PatternRefusal) → RefusesWith (text_fault pattern) e → RefusesWith (walk_fault pattern) e
unfolding walk_fault
walk_fault-whole pattern (refusal.Syntax e) h = ap (λ o. option_or o (first_fault (components pattern))) h
walk_fault-whole pattern refusal.Memory h = tt

pub walk_fault-components : (pattern : Text) → text_fault pattern ≡ None → first_fault (components pattern) ≡ walk_fault pattern
unfolding walk_fault
walk_fault-components pattern h = ap (λ o. option_or o (first_fault (components pattern))) (sym h)
