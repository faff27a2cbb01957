use Rattle.std.proofs.Common.{◌∙◌}
use Rattle.std.specs.String.{string_bytes}
use Rattle.glob_tree.proofs.SystemLemmas.Answering.{opened_at, read_kept, fault_taken, named_kept, received, unopened_taken}
use Rattle.glob_tree.proofs.SystemLemmas.Saying.{read_said}
use Rattle.glob_tree.proofs.reading.entries.Goals as goal

pub returns-in_err-directory-clause-fails : goal.returns-in_err-directory-clause-fails
returns-in_err-directory-clause-fails g c = λ f held.
    unopened_taken f held.1 c.args.path.now c.as_str.result.now (c.as_str.ensures.value ∙ c.in_ok-path.ensures) c.in_err-directory.field-0.0
    (c.in_err-directory.ensures.fails f held) (g.R.Reader.receives c.args.reader.now)
    c.from_residual-in_err-directory.result c.from_residual-in_err-directory.ensures.1

pub returns-clause-entries : goal.returns-clause-entries
returns-clause-entries g c = λ f seen looked.
    read_kept f seen.0.1 c.args.path.now (string_bytes c.in_ok-path.path) c.in_ok-path.ensures
    (g.R.Dir.Directory.left c.in_ok-directory.directory) (g.R.Dir.Directory.fault c.in_ok-directory.directory)
    (opened_at f c.as_str.result.now (string_bytes c.in_ok-path.path) c.as_str.ensures.value _ _
    (c.in_ok-directory.ensures.opened f seen.0))
    c.read_entries.result (λ direct. c.read_entries.ensures.kinds f seen direct looked) c.read_entries.ensures.whole

pub returns-clause-said : goal.returns-clause-said
returns-clause-said g c = λ f held looked.
    read_said (g.R.Reader.receives c.args.reader.now) (g.R.Reader.links c.args.reader.now) f held.1 c.args.path.now
    (string_bytes c.in_ok-path.path) c.in_ok-path.ensures _ _
    c.read_entries.result (λ direct. c.read_entries.ensures.said f held direct looked)

pub returns-clause-named : goal.returns-clause-named
returns-clause-named g c = λ f held.
    named_kept f held.1 c.args.path.now (string_bytes c.in_ok-path.path) c.in_ok-path.ensures
    (g.R.Dir.Directory.left c.in_ok-directory.directory) (g.R.Dir.Directory.fault c.in_ok-directory.directory)
    (opened_at f c.as_str.result.now (string_bytes c.in_ok-path.path) c.as_str.ensures.value _ _ (c.in_ok-directory.ensures.opened f held))
    c.read_entries.result c.read_entries.ensures.names c.read_entries.ensures.whole

pub returns-clause-strays : goal.returns-clause-strays
returns-clause-strays g c = λ f held.
    received f held.1 c.args.path.now (string_bytes c.in_ok-path.path) c.in_ok-path.ensures
    (g.R.Dir.Directory.left c.in_ok-directory.directory) (g.R.Dir.Directory.fault c.in_ok-directory.directory)
    (opened_at f c.as_str.result.now (string_bytes c.in_ok-path.path) c.as_str.ensures.value _ _ (c.in_ok-directory.ensures.opened f held))
    c.read_entries.result _ _ c.read_entries.ensures.strays

pub returns-clause-fails : goal.returns-clause-fails
returns-clause-fails g c = λ f held.
    fault_taken f held.1 c.args.path.now (string_bytes c.in_ok-path.path) c.in_ok-path.ensures
    (g.R.Dir.Directory.left c.in_ok-directory.directory) (g.R.Dir.Directory.fault c.in_ok-directory.directory)
    (opened_at f c.as_str.result.now (string_bytes c.in_ok-path.path) c.as_str.ensures.value _ _ (c.in_ok-directory.ensures.opened f held))
    (g.R.Reader.receives c.args.reader.now) c.read_entries.result c.read_entries.ensures.fails
