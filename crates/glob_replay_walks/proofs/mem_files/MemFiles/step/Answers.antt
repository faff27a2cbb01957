use Rattle.std.proofs.Common.{◌≡◌, [], ◌∷◌, ◌++◌, true, ap, sym, ◌∙◌, Some}
use Rattle.glob_tree.specs.Content.{is_dir_at}
use Rattle.glob_tree.proofs.ContentLemmas.Resolving.{step_down}
use Rattle.glob_replay_walks.specs.MemFiles.{content_of, key_of, value_at}
use Rattle.glob_replay_walks.proofs.FileLemmas.{child-some, child-none, key_of-more, value-same}
use Rattle.glob_replay_walks.proofs.mem_files.MemFiles.step.Goals as goal

pub returns-in-Some : goal.returns-in-Some
returns-in-Some g c =
    let kinds = c.args.self.now.kinds.items in
    let k = key_of c.args.at.items in
    let more = ap key_of c.in_ok-push.ensures.items ∙ key_of-more c.args.at.items c.args.piece in
    let dir : is_dir_at (content_of kinds) k ≡ true = ap (λ ks. is_dir_at (content_of kinds) (key_of ks))
    (sym c.as_slice.ensures.value) ∙ sym c.is_dir.ensures ∙ c.if-not-is_dir.false in
    let at : Some c.in-Some.field-0 ≡ value_at (k ++ c.args.piece.now ∷ []) kinds =
    sym c.in-Some.is ∙ value-same c.value_at.result _ c.push.new.self.items _ kinds c.value_at.ensures
    c.as_slice-3.ensures.value c.as_slice-2.ensures.value ∙ ap (λ l. value_at l kinds) more in
    ap Some more ∙ child-some kinds k c.args.piece.now c.in-Some.field-0 at
    ∙ sym (step_down (content_of kinds) k c.args.piece.now dir (sym c.stays.ensures ∙ c.if-stays.false) (sym c.eq.ensures ∙ c.if-eq.false))

pub returns : goal.returns
returns g c =
    let kinds = c.args.self.now.kinds.items in
    let k = key_of c.args.at.items in
    let more = ap key_of c.in_ok-push.ensures.items ∙ key_of-more c.args.at.items c.args.piece in
    let dir : is_dir_at (content_of kinds) k ≡ true = ap (λ ks. is_dir_at (content_of kinds) (key_of ks))
    (sym c.as_slice.ensures.value) ∙ sym c.is_dir.ensures ∙ c.if-not-is_dir.false in
    child-none kinds k c.args.piece.now
    (sym c.in-None.is ∙ value-same c.value_at.result _ c.push.new.self.items _ kinds c.value_at.ensures
    c.as_slice-3.ensures.value c.as_slice-2.ensures.value ∙ ap (λ l. value_at l kinds) more)
    ∙ sym (step_down (content_of kinds) k c.args.piece.now dir (sym c.stays.ensures ∙ c.if-stays.false) (sym c.eq.ensures ∙ c.if-eq.false))
