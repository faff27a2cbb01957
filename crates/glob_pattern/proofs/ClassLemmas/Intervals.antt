-- The boundaries of intervals stay while others are added.
use Rattle.std.proofs.Common.{◌≤◌, ℕ, List}
use Rattle.std.specs.List.{All}
use Rattle.glob_pattern.specs.Grammar.Tokens.{Token}
use Rattle.glob_pattern.specs.Private.Classes.{HasInterval, Grows, EachCase, EntryIntervals, TokenIntervals, EachInterval}
use Rattle.glob_pattern.specs.declared.pattern.classes.Boundaries.{Boundaries}
use Rattle.glob_pattern.specs.declared.token.Token.TheVariants.{Literal, AnyChar, AnySequence, Recursive, OneOf, NoneOf}
use Rattle.glob_pattern.specs.declared.token.bracket.Entry.{Entry}

pub Grows-trans : {A : Type 0} (a b c : Boundaries A) → Grows a b → Grows b c → Grows a c
Grows-trans a b c first second = record {
  ascii = λ k h. second.ascii k (first.ascii k h);
  beyond = λ k h. second.beyond k (first.beyond k h);
}

-- what is known stays known
pub HasInterval-grows : {A : Type 0} (old new : Boundaries A) → Grows old new → (x y : ℕ) → HasInterval old x y → HasInterval new x y
HasInterval-grows old new grows x y has = record {
  first = λ low. grows.ascii _ (has.first low);
  after = λ low. grows.ascii _ (has.after low);
  first_beyond = λ high. grows.beyond _ (has.first_beyond high);
  after_beyond = λ high. grows.beyond _ (has.after_beyond high);
}

module _ (P Q : ℕ → ℕ → Type 0) (from : (x y : ℕ) → x ≤ y → P x y → Q x y) where
  pub EachCase-map : (x y : ℕ) → EachCase P x y → EachCase Q x y
  EachCase-map x y each = record {
    plain = λ le. from _ _ le (each.plain le);
    lower = λ letters le. from _ _ le (each.lower letters le);
    upper = λ letters le. from _ _ le (each.upper letters le);
  }

  pub Entries-map : (entries : List Entry) → All (EntryIntervals P) entries → All (EntryIntervals Q) entries
  Entries-map entries all k d lt = EachCase-map _ _ (all k d lt)

  pub TokenIntervals-map : (t : Token) → TokenIntervals P t → TokenIntervals Q t
  TokenIntervals-map (Literal x) h = EachCase-map x x h
  TokenIntervals-map AnyChar h = h
  TokenIntervals-map AnySequence h = h
  TokenIntervals-map Recursive h = h
  TokenIntervals-map (OneOf entries) h = Entries-map entries h
  TokenIntervals-map (NoneOf entries) h = Entries-map entries h

  pub EachInterval-map : (tokens : List Token) → EachInterval P tokens → EachInterval Q tokens
  EachInterval-map tokens all k d lt = TokenIntervals-map _ (all k d lt)
