use Rattle.std.proofs.Common.{string_bytes, ap, ◌∙◌, arith}
use Rattle.std.proofs.lemmas.List.{map-append}
use Rattle.globs.specs.Ignoring.{texts_of}
use Rattle.globs.proofs.SourceLemmas.{files_done, files_first, files_more}
use Rattle.globs.proofs.ignoring.add_files.Goals as goal

pub loop-name-init : goal.loop-name-init
loop-name-init g c = files_first (g.F.IgnoreFiles.holds c.args.files.now) c.args.names.now _

pub loop-name-preserved : goal.loop-name-preserved
loop-name-preserved g c =
    files_more (g.F.IgnoreFiles.holds c.args.files.now) c.args.names.now c.loop-name.name-index _ _ _ _
    (string_bytes c.in_ok-text.text) (omega arith) c.in_ok-text.ensures
    (ap texts_of c.in_ok-push.ensures.items ∙ map-append (λ s. string_bytes s.text) _ _) c.loop-name.invariant

pub returns : goal.returns
returns g c = files_done (g.F.IgnoreFiles.holds c.args.files.now) c.args.names.now c.loop-name.name-index _ _
    (omega arith) c.loop-name.invariant
