use Rattle.std.proofs.Common.{cond, Some, None, ap, sym, ◌∙◌}
use Rattle.std.proofs.lemmas.List.{nil_from_length}
use Rattle.glob_replay_walks.specs.MemFiles.{key_of, name_in}
use Rattle.glob_replay_walks.proofs.FileLemmas.{key_of-more, name_in-last, name_in-nil, same_key-names}
use Rattle.glob_replay_walks.proofs.mem_files.Keyed.name_in.Goals as goal

pub returns-in_err-name : goal.returns-in_err-name
returns-in_err-name g c =
    rw c.from_residual.ensures (sym (ap (λ ks. name_in (key_of c.args.directory.now) (key_of ks))
    (sym c.as_slice.ensures.value ∙ nil_from_length _ c.in_err-name.ensures.cases)
    ∙ name_in-nil (key_of c.args.directory.now)))

pub returns-then-eq : goal.returns-then-eq
returns-then-eq g c =
    sym (ap (λ ks. name_in (key_of c.args.directory.now) (key_of ks)) (sym c.as_slice.ensures.value ∙ c.in_ok-name.ensures.cases.0)
    ∙ ap (name_in (key_of c.args.directory.now)) (key_of-more c.in_ok-name.parent.now c.in_ok-name.name.now)
    ∙ name_in-last (key_of c.args.directory.now) (key_of c.in_ok-name.parent.now) c.in_ok-name.name.now.now
    ∙ ap (λ b. cond b (Some c.in_ok-name.name.now.now) None) (sym
    (same_key-names c.args.directory.now c.in_ok-name.parent.now) ∙ sym c.eq.ensures ∙ c.if-eq.true))

pub returns : goal.returns
returns g c =
    sym (ap (λ ks. name_in (key_of c.args.directory.now) (key_of ks)) (sym c.as_slice.ensures.value ∙ c.in_ok-name.ensures.cases.0)
    ∙ ap (name_in (key_of c.args.directory.now)) (key_of-more c.in_ok-name.parent.now c.in_ok-name.name.now)
    ∙ name_in-last (key_of c.args.directory.now) (key_of c.in_ok-name.parent.now) c.in_ok-name.name.now.now
    ∙ ap (λ b. cond b (Some c.in_ok-name.name.now.now) None) (sym
    (same_key-names c.args.directory.now c.in_ok-name.parent.now) ∙ sym c.eq.ensures ∙ c.if-eq.false))
