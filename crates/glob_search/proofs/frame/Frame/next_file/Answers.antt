use Rattle.std.proofs.Common.{◌+◌, ◌<◌, [], length, map, string_bytes, ap, sym, subst, ◌∙◌, arith}
use Rattle.std.proofs.lemmas.List.{get_or-map, length-map}
use Rattle.glob_search.specs.Private.Steps.{IsAbsent}
use Rattle.glob_search.proofs.EngineLemmas.Passing.{absent-of, absent-more, same-but_files}
use Rattle.glob_search.proofs.frame.Frame.next_file.Goals as goal

pub loop-self-preserved : goal.loop-self-preserved
loop-self-preserved g c =
    let n = c.loop-self.self.files in
    let name = string_bytes c.index-names-number.result in
    record {
      same = same-but_files c.args.self.now c.loop-self.self (n + 1) c.loop-self.invariant.same;
      more = omega arith;
      absent = absent-more c.args.self.now (map (λ s. string_bytes s) c.args.names.now) c.args.self.now.files n name
          c.loop-self.invariant.absent
          (get_or-map (λ s. string_bytes s) c.args.names.now n c.index-names-number.result [] c.loop-self-test.true
          ∙ ap (λ s. string_bytes s) (sym c.index-names-number.is))
          (absent-of c.args.self.now c.loop-self.self (n + 1) name c.loop-self.invariant.same
          (subst (IsAbsent (record c.loop-self.self { files = n + 1 })) c.as_str.ensures.value (c.may_have.ensures c.if-may_have.false)));
    }

pub returns-clause-passes : goal.returns-clause-passes
returns-clause-passes g c = (
  record {
    same = c.loop-self.invariant.same;
    absent = λ k from below. let within : k < length c.args.names.now = simp length-map at below in
        c.loop-self.invariant.absent k from (omega (arith, c.loop-self-test.false));
  },
  simp length-map (omega (arith, c.loop-self-test.false)),
)
