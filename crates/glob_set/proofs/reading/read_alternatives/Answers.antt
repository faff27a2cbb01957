-- The alternatives are read as the patterns of a list of texts are.
use Rattle.std.proofs.Common.{◌≡◌, chars, map, string_bytes, sym, ap, subst, ◌∙◌, rules}
use Rattle.std.proofs.lemmas.Result.{err_from_is_err_and, IfErr-at_err, IfOk-at_ok, IfOk-weaker}
use Rattle.glob_set.specs.BraceSets.{AreAccepted, RefusesText, of_alternatives, of_braces}
use Rattle.glob_set.specs.Braces.{AreAlternatives}
use Rattle.glob_set.proofs.MappedErrors.{IfErr-mapped, IfOk-mapped}
use Rattle.glob_set.proofs.BraceSetLemmas.{refuses_text_memory, RefusesText-braces, RefusesText-alternative, HasPatterns-all}
use Rattle.glob_set.proofs.reading.read_alternatives.Goals as goal

pub returns-in_err-alternatives-clause-refused : goal.returns-in_err-alternatives-clause-refused
returns-in_err-alternatives-clause-refused g c =
    let Refuses = RefusesText c.args.text.now c.args.number in
    let p = err_from_is_err_and c.from_residual.result c.from_residual.ensures.1 in
    rw (p.1, p.2) (IfErr-at_err Refuses c.in_err-alternatives.was
    (IfErr-mapped c.expand.result c.map_err.result _ _ Refuses c.map_err.ensures.cases c.expand.ensures.refused
    (λ e d fault made.
    let is : d ≡ of_braces c.args.number e = search rules in
    subst Refuses (sym is) (RefusesText-braces c.args.text.now c.args.number e fault))))

pub returns-in_err-texts-clause-refused : goal.returns-in_err-texts-clause-refused
returns-in_err-texts-clause-refused g c = refuses_text_memory _ _ _ c.from_residual-in_err-texts.ensures.1

pub returns-clause-patterns : goal.returns-clause-patterns
returns-clause-patterns g c =
    let same : map (λ t. t.now) c.as_slice-2.result.now ≡ map string_bytes c.in_ok-alternatives.alternatives.items =
    ap (map (λ t. t.now)) c.as_slice-2.ensures.value ∙ c.in_ok-texts.ensures ∙ ap (map string_bytes) c.as_slice.ensures.value in
    let are = IfOk-at_ok _ c.in_ok-alternatives.was (IfOk-mapped c.expand.result c.map_err.result _ _
    c.map_err.ensures.cases c.expand.ensures.alternatives) in
    IfOk-mapped c.read_patterns-patterns.result c.map_err-2.result _ _ c.map_err-2.ensures.cases
    (IfOk-weaker c.read_patterns-patterns.result _ _ (λ found is. subst (AreAlternatives (chars c.args.text.now)) (sym (is ∙ same)) are)
    c.read_patterns-patterns.ensures.patterns)

pub returns-clause-accepted : goal.returns-clause-accepted
returns-clause-accepted g c =
    let same : map (λ t. t.now) c.as_slice-2.result.now ≡ map string_bytes c.in_ok-alternatives.alternatives.items =
    ap (map (λ t. t.now)) c.as_slice-2.ensures.value ∙ c.in_ok-texts.ensures ∙ ap (map string_bytes) c.as_slice.ensures.value in
    let are = IfOk-at_ok _ c.in_ok-alternatives.was (IfOk-mapped c.expand.result c.map_err.result _ _
    c.map_err.ensures.cases c.expand.ensures.alternatives) in
    IfOk-mapped c.read_patterns-patterns.result c.map_err-2.result _ _ c.map_err-2.ensures.cases
    (IfOk-weaker c.read_patterns-patterns.result _ _
    (λ found accepted. HasPatterns-all c.args.text.now (map string_bytes c.in_ok-alternatives.alternatives.items) are
    (subst AreAccepted same accepted))
    c.read_patterns-patterns.ensures.accepted)

pub returns-clause-refused : goal.returns-clause-refused
returns-clause-refused g c =
    let Refuses = RefusesText c.args.text.now c.args.number in
    let same : map (λ t. t.now) c.as_slice-2.result.now ≡ map string_bytes c.in_ok-alternatives.alternatives.items =
    ap (map (λ t. t.now)) c.as_slice-2.ensures.value ∙ c.in_ok-texts.ensures ∙ ap (map string_bytes) c.as_slice.ensures.value in
    let are = IfOk-at_ok _ c.in_ok-alternatives.was (IfOk-mapped c.expand.result c.map_err.result _ _
    c.map_err.ensures.cases c.expand.ensures.alternatives) in
    IfErr-mapped c.read_patterns-patterns.result c.map_err-2.result _ _ Refuses c.map_err-2.ensures.cases
    c.read_patterns-patterns.ensures.refused
    (λ e d fault made.
    let is : d ≡ of_alternatives c.args.number e = search rules in
    subst Refuses (sym is)
    (RefusesText-alternative c.args.text.now c.args.number (map (λ t. t.now) c.as_slice-2.result.now) e
    (subst (AreAlternatives (chars c.args.text.now)) (sym same) are) fault))
