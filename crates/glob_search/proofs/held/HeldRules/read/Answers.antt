use Rattle.std.proofs.Common.{◌≡◌, ◌+◌, ◌++◌, ◌∷◌, [], map, take, get_or, string_bytes, ap, sym, subst, ◌∙◌, arith}
use Rattle.std.proofs.lemmas.List.{map-append, take_all, take_more}
use Rattle.glob_search.specs.Private.Reading.{Adds}
use Rattle.glob_search.proofs.ReadLemmas.{read-more}
use Rattle.glob_search.proofs.held.HeldRules.read.Goals as goal

pub loop-name-preserved : goal.loop-name-preserved
loop-name-preserved g c = record {
  first = c.in_ok-read_file.ensures.first ∙ c.loop-name.invariant.first;
  last = c.in_ok-read_file.ensures.last ∙ c.loop-name.invariant.last;
  texts = c.in_ok-read_file.ensures.texts ∙ c.loop-name.invariant.texts;
  reads = λ known same directory proper at.
      let names = c.args.names.now in
      let i = c.loop-name.name-index in
      let item = c.name-item.result in
      let file = c.as_str.result.now in
      let files : map (λ n. string_bytes n) (take i names) ++ file ∷ [] ≡ map (λ n. string_bytes n) (take (i + 1) names) =
      ap (λ f. map (λ n. string_bytes n) (take i names) ++ f ∷ []) (c.as_str.ensures.value ∙ ap (λ n. string_bytes n) c.name-item.is)
      ∙ sym (ap (map (λ n. string_bytes n)) (take_more names i item (omega (arith, c.loop-name-test.true)))
      ∙ map-append (λ n. string_bytes n) (take i names) (get_or names i item ∷ [])) in
      subst (λ fs. Adds known fs directory c.args.self.now c.read_file.new.self) files
      (read-more known directory (map (λ n. string_bytes n) (take i names)) file c.args.self.now c.loop-name.self c.read_file.new.self
      (c.loop-name.invariant.reads known same directory proper at)
      (c.in_ok-read_file.ensures.reads known (c.loop-name.invariant.texts ∙ same) directory proper at));
}

pub returns-clause-reads : goal.returns-clause-reads
returns-clause-reads g c = λ known same directory proper at.
    let names = c.args.names.now in
    subst (λ ns. Adds known (map (λ n. string_bytes n) ns) directory c.args.self.now c.loop-name.self)
    (take_all c.loop-name.name-index names (omega (arith, c.loop-name-test.false)))
    (c.loop-name.invariant.reads known same directory proper at)
