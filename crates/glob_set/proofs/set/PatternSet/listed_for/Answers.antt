use Rattle.std.proofs.Common.{sym, ap, subst, ◌∙◌}
use Rattle.glob_set.specs.Private.Asking.{AreAsked}
use Rattle.glob_set.specs.Private.Keyed.{Finds}
use Rattle.glob_set.specs.Private.Keys.{IsKeyOf}
use Rattle.glob_set.specs.Private.Pairs.{text_class}
use Rattle.glob_set.specs.Sets.{Set}
use Rattle.glob_set.proofs.AskingLemmas.{AreAsked-bucket, AreAsked-all, bucket_for}
use Rattle.glob_set.proofs.set.PatternSet.listed_for.Goals as goal

pub returns-then-is_full : goal.returns-then-is_full
returns-then-is_full g c =
    let inside = c.self.inside in
    let text = c.args.text.now in
    let P : Set → Type 0 = λ s. AreAsked s.options s.patterns text c.numbers.result.now c.find_in.new.found.items in
    subst P c.self.view_is
    (subst (λ ks. AreAsked inside.options inside.patterns.items text ks c.find_in.new.found.items) (sym c.numbers.ensures)
    (AreAsked-all inside.options inside.patterns.items text inside.keyed inside.all c.find_in.new.found.items c.self.invariant.1.same_length
    c.self.invariant.3 c.find_in.ensures.within c.find_in.ensures.order))

pub returns : goal.returns
returns g c =
    let inside = c.self.inside in
    let text = c.args.text.now in
    let found = c.find_in.new.found in
    let P : Set → Type 0 = λ s. AreAsked s.options s.patterns text c.of_class.result.now found.items in
    let bucket = bucket_for inside.needs.items inside.keyed inside.buckets c.text_class.result text c.of_class.result.now c.self.invariant.2
    c.text_class.ensures.small (c.text_class.ensures.class ∙ ap text_class c.as_bytes-bytes.ensures.value) c.of_class.ensures in
    let finds = subst (λ bs. Finds inside.keyed (IsKeyOf bs) found) c.as_bytes-bytes.ensures.value c.find_in.ensures.all in
    subst P c.self.view_is
    (AreAsked-bucket inside.options inside.patterns.items text c.utf8.text inside.needs.items inside.keyed
    c.of_class.result.now found c.self.invariant.0
    c.self.invariant.1 bucket (sym c.is_full.ensures ∙ c.if-is_full.false) c.find_in.ensures.within c.find_in.ensures.order finds)
