-- The rows of one case begin at the first of them.
use Rattle.std.proofs.Common.{◌≡◌, ℕ, ◌+◌, ◌-◌, ◌*◌, Bool, List, length, drop, ap, ◌∙◌, arith}
use Rattle.std.proofs.lemmas.List.{get_or-drop, length-drop, take_all}
use Rattle.glob_pattern.specs.Grammar.Tokens.{Token}
use Rattle.glob_pattern.specs.Private.Classes.{Partition, partition_of, columns_of}
use Rattle.glob_pattern.specs.Private.CharMasks.{AreRows, class_of, mask_at, half_of}
use Rattle.glob_pattern.proofs.ClassLemmas.Rows.{drop-min}
use Rattle.glob_pattern.proofs.pattern.char_masks.Rows.of.Goals as goal
use Rattle.glob_pattern.proofs.pattern.char_masks.Rows.of.Goals.{then-case_sensitive, else-case_sensitive}

AreRows-from : (tokens : List Token) (words : ℕ) (case : Bool) (p : Partition) (masks : List ℕ) (half : ℕ)
    → AreRows tokens words case p masks half → AreRows tokens words case p (drop (half * columns_of p) masks) 0
AreRows-from tokens words case p masks half are = record {
  partition = are.partition;
  within = λ word lt.
      let within = are.within word lt in
      let long = length-drop (half * columns_of p) masks in
      omega (arith, within, long);
  row = λ word lt. record {
    takes = λ o opening c j same few.
        let k = class_of p o opening c in
        let at : half * columns_of p + ((2 * word + 0) * columns_of p + k) ≡ (2 * word + half) * columns_of p + k = omega arith in
        rw (get_or-drop (half * columns_of p) masks ((2 * word + 0) * columns_of p + k) 0 ∙ ap (mask_at masks) at)
        ((are.row word lt).takes o opening c j same few);
  };
}

pub returns : goal.returns
returns c = λ tokens words are.
    let p = partition_of c.args.classes in
    let masks = c.args.masks.now in
    let start : c.if-case_sensitive.start ≡ half_of c.args.case_sensitive * columns_of p = elim c.if-case_sensitive.branch [
      | then-case_sensitive w ↦ rw w.if-case_sensitive.true (w.start-is ∙ omega arith)
      | else-case_sensitive w ↦ rw w.if-case_sensitive.false (w.start-is ∙ c.count-columns.ensures ∙ omega arith)
    ] in
    let rest : drop c.min.result masks ≡ drop (half_of c.args.case_sensitive * columns_of p) masks =
    ap (λ k. drop k masks) c.min.ensures ∙ drop-min c.if-case_sensitive.start masks ∙ ap (λ k. drop k masks) start in
    let long = length-drop c.min.result masks in
    record {
      columns = c.count-columns.ensures;
      are = rw (take_all (length masks - c.min.result) (drop c.min.result masks) (omega (arith, long)), rest)
          (AreRows-from tokens words c.args.case_sensitive p masks (half_of c.args.case_sensitive) (are c.args.case_sensitive));
    }
