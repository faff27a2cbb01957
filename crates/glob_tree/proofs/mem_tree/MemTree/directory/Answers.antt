use Rattle.std.proofs.Common.{◌≡◌, [], sym, subst, ◌∙◌, Some, None, MatchOption, MatchResult}
use Rattle.std.specs.Option.{ok_or}
use Rattle.glob_tree.specs.Memory.{MemoryTree, key_of, current_refusal}
use Rattle.glob_tree.specs.Private.Places.{AreNames, IsDirectoryOf}
use Rattle.glob_tree.specs.Private.Nodes.{key_numbered, content_at}
use Rattle.glob_text.specs.Pieces.{pieces}
use Rattle.glob_tree.specs.declared.refusal.TreeRefusal.TheVariants.{NoDirectory}
use Rattle.glob_tree.proofs.MemoryLemmas.Memory.{root_named, directory_named, current_no_directory, is_dir_any}
use Rattle.glob_tree.proofs.MemoryLemmas.Refusing.{answered}
use Rattle.glob_tree.proofs.mem_tree.MemTree.directory.Goals as goal

pub returns-then-eq : goal.returns-then-eq
returns-then-eq g c =
    let child_key = root_named c.self.inside.nodes c.self.inside.current c.root.result c.args.path.now
    c.root.ensures.inside (sym c.if-eq.ensures) c.root.ensures.root c.self.invariant.1 in
    subst (λ (t : MemoryTree). IsDirectoryOf t.content c.args.path.now c.root.result) c.self.view_is child_key

pub returns : goal.returns
returns g c =
    let k = pieces c.in_ok-names.names.now in
    let named = subst (λ o. MatchOption o (key_of c.args.path.now ≡ None) (λ names. AreNames c.args.path.now
    names.now)) c.in_ok-names.ensures.ok_part c.proper_names.ensures in
    let all = answered (IsDirectoryOf (content_at c.self.inside.nodes c.self.inside.current) c.args.path.now)
    (λ e. current_refusal (content_at c.self.inside.nodes c.self.inside.current) c.args.path.now ≡ Some e)
    c.directory.result NoDirectory c.directory.ensures
    (λ none. current_no_directory (content_at c.self.inside.nodes c.self.inside.current) c.args.path.now k (sym c.if-eq.ensures) named.0
    (is_dir_any c.self.inside.nodes (key_numbered c.self.inside.nodes c.self.inside.current) [] k ∙ none))
    (λ n is. directory_named c.self.inside.nodes c.self.inside.current n c.args.path.now is.0 k (sym c.if-eq.ensures) named.0 is.1 is.3) in
    let of_view = subst (λ (t : MemoryTree). MatchResult (ok_or c.directory.result NoDirectory)
    (λ number. IsDirectoryOf t.content c.args.path.now number) (λ e. current_refusal t.content c.args.path.now ≡
    Some e)) c.self.view_is all in
    subst (λ r. MatchResult r (λ number. IsDirectoryOf c.args.self.now.content c.args.path.now number)
    (λ e. current_refusal c.args.self.now.content c.args.path.now ≡ Some e)) (sym c.ok_or-2.ensures.value) of_view
