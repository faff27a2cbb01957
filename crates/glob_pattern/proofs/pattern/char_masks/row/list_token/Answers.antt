use Rattle.std.proofs.Common.{true, false, ⊎_elim}
use Rattle.glob_pattern.proofs.ClassLemmas.Folding.{single-held}
use Rattle.glob_pattern.proofs.MaskLemmas.Putting.{with_none, with_one}
use Rattle.glob_pattern.proofs.pattern.char_masks.row.list_token.Goals as goal

pub list_cases-requires-clause-apart : goal.list_cases-requires-clause-apart
list_cases-requires-clause-apart g c = rw c.in-Literal.is at c.requires.apart

pub list_all-requires-clause-apart : goal.list_all-requires-clause-apart
list_all-requires-clause-apart g c = rw c.entries.ensures (rw c.in-OneOf.is at c.requires.apart)

pub list_all-requires-in-NoneOf-clause-apart : goal.list_all-requires-in-NoneOf-clause-apart
list_all-requires-in-NoneOf-clause-apart g c = rw c.entries-in-NoneOf.ensures (rw c.in-NoneOf.is at c.requires.apart)

pub returns-in-Literal : goal.returns-in-Literal
returns-in-Literal g c = rw c.in-Literal.is (record {
  plain = λ d. rw (single-held true d c.in-Literal.c) at (c.list_cases.ensures.plain d);
  folded = λ d. rw (single-held false d c.in-Literal.c) at (c.list_cases.ensures.folded d);
  others = with_none _ _;
  brackets = with_none _ _;
  recursive = with_none _ _;
})

pub returns-in-Recursive : goal.returns-in-Recursive
returns-in-Recursive g c = rw c.in-Recursive.is (record {
  plain = λ d. with_none _ _;
  folded = λ d. with_none _ _;
  others = with_one c.with_bit.ensures;
  brackets = with_none _ _;
  recursive = with_one c.with_bit-in-Recursive.ensures;
})

pub returns-in-OneOf : goal.returns-in-OneOf
returns-in-OneOf g c =
    rw c.in-OneOf.is (record {
      plain = rw c.entries.ensures at c.list_all.ensures.plain;
      folded = rw c.entries.ensures at c.list_all.ensures.folded;
      others = with_none _ _;
      brackets = with_one c.with_bit-in-OneOf.ensures;
      recursive = with_none _ _;
    })

pub returns-in-NoneOf : goal.returns-in-NoneOf
returns-in-NoneOf g c =
    rw c.in-NoneOf.is (record {
      plain = rw c.entries-in-NoneOf.ensures at c.list_all-in-NoneOf.ensures.plain;
      folded = rw c.entries-in-NoneOf.ensures at c.list_all-in-NoneOf.ensures.folded;
      others = with_one c.with_bit-in-NoneOf.ensures;
      brackets = with_one c.with_bit-in-NoneOf-2.ensures;
      recursive = with_none _ _;
    })

pub returns-in-AnyChar : goal.returns-in-AnyChar
returns-in-AnyChar g c = ⊎_elim
    (λ e. rw e (record {
      plain = λ d. with_none _ _;
      folded = λ d. with_none _ _;
      others = with_one c.with_bit-in-AnyChar.ensures;
      brackets =
          with_none _ _;
      recursive = with_none _ _;
    }))
    (λ e. rw e (record {
      plain = λ d. with_none _ _;
      folded = λ d. with_none _ _;
      others = with_one c.with_bit-in-AnyChar.ensures;
      brackets =
          with_none _ _;
      recursive = with_none _ _;
    }))
    c.in-AnyChar.is
