use Rattle.std.proofs.Common.{◌↔◌, IsTrue, [], ◌∷◌, map, sym, subst, ◌∙◌}
use Rattle.std.proofs.lemmas.Bool.{false≢true}
use Rattle.std.proofs.lemmas.List.{map-append}
use Rattle.std.specs.Path.{path_buf_bytes}
use Rattle.glob.proofs.KeptTexts.{AreKept-push, AreKept-pass}
use Rattle.glob_examples.specs.Copying.{Copies}
use Rattle.glob_examples.proofs.copy.copied.Goals as goal

-- one more path, which is kept
pub loop-path-preserved-in-Continue-branch-2 : goal.loop-path-preserved-in-Continue-branch-2
loop-path-preserved-in-Continue-branch-2 g c =
    let path = c.in-Some.path in
    let files = c.loop-path.files.items in
    let copied : Copies c.args.rules.now (path_buf_bytes path) =
    subst (Copies c.args.rules.now) c.as_path.ensures (c.in_ok-copies.ensures.0 c.if-branch.true) in
    rw (map-append path_buf_bytes c.loop-path.yielded (path ∷ []), c.in_ok-push.ensures.items, map-append path_buf_bytes files (path ∷ []))
    (AreKept-push _ (map path_buf_bytes c.loop-path.yielded) (map path_buf_bytes files) (path_buf_bytes path) c.loop-path.invariant copied)

-- one more path, which is left out
pub loop-path-preserved : goal.loop-path-preserved
loop-path-preserved g c =
    let path = c.in-Some.path in
    let tells : IsTrue c.in_ok-copies.field-0 ↔ Copies c.args.rules.now (path_buf_bytes path) =
    subst (λ text. IsTrue c.in_ok-copies.field-0 ↔ Copies c.args.rules.now text) c.as_path.ensures c.in_ok-copies.ensures in
    rw (map-append path_buf_bytes c.loop-path.yielded (path ∷ []))
    (AreKept-pass _ (map path_buf_bytes c.loop-path.yielded) _ (path_buf_bytes path) c.loop-path.invariant
    (λ copied. false≢true (sym c.if-branch.false ∙ tells.1 copied)))
