use Rattle.std.proofs.Common.{◌≡◌, sym, subst, ◌∙◌, Some, None, MatchOption}
use Rattle.glob_tree.specs.Content.{child_key}
use Rattle.glob_tree.specs.Private.Nodes.{rooted_content}
use Rattle.glob_tree.specs.Memory.{MemoryTree, key_of, add_refusal}
use Rattle.glob_tree.specs.Private.Places.{AreNames, IsPlace}
use Rattle.glob_tree.specs.Private.Numbers.{IsDirectoryAt, Leads, directory_names}
use Rattle.glob_tree.specs.declared.refusal.TreeRefusal.TheVariants.{NoParent, Taken}
use Rattle.glob_tree.proofs.MemoryLemmas.Memory.{refused_no_parent, refused_taken, a_place}
use Rattle.glob_tree.proofs.MemoryLemmas.Refusing.{error_is, refused_by}
use Rattle.glob_tree.proofs.mem_tree.MemTree.place.Goals as goal

pub returns-in_err-number : goal.returns-in_err-number
returns-in_err-number g c =
    let named = subst (λ o. MatchOption o (key_of c.args.path.now ≡ None) (λ names. AreNames c.args.path.now
    names.now)) c.in_ok-names.ensures.ok_part c.proper_names.ensures in
    let closed = subst (IsDirectoryAt c.self.inside.nodes (directory_names c.last_name.result.0))
    c.in_err-number.ensures.ok_part c.directory.ensures in
    let refused = refused_no_parent c.self.inside.nodes c.self.inside.current c.args.path.now c.in_ok-names.names.now
    (directory_names c.last_name.result.0) c.last_name.result.1.now
    named.0 c.last_name.ensures.names closed in
    let of_view = subst (λ (t : MemoryTree). add_refusal t.content c.args.path.now ≡ Some NoParent) c.self.view_is refused in
    let is = error_is c.directory.result NoParent c.in_err-number.field-0.0 (sym c.ok_or-2.ensures.value
    ∙ c.in_err-number.was) c.in_err-number.ensures.ok_part in
    refused_by (λ place. IsPlace c.args.self.now.content c.args.path.now place.0 place.1.now)
    (λ e. add_refusal c.args.self.now.content c.args.path.now ≡ Some e)
    c.from_residual-in_err-number.result c.in_err-number.field-0.0 c.from_residual-in_err-number.ensures.1
    (subst (λ e. add_refusal c.args.self.now.content c.args.path.now ≡ Some e) (sym is) of_view)

pub returns-then-is_some : goal.returns-then-is_some
returns-then-is_some g c =
    let named = subst (λ o. MatchOption o (key_of c.args.path.now ≡ None) (λ names. AreNames c.args.path.now
    names.now)) c.in_ok-names.ensures.ok_part c.proper_names.ensures in
    let found = subst (IsDirectoryAt c.self.inside.nodes (directory_names c.last_name.result.0))
    c.in_ok-number.ensures.ok_part c.directory.ensures in
    let refused = refused_taken c.self.inside.nodes c.self.inside.current c.args.path.now c.in_ok-names.names.now
    (directory_names c.last_name.result.0) c.last_name.result.1.now
    named.0 c.last_name.ensures.names c.child.result found.3
    (subst (λ k. Leads c.self.inside.nodes c.child.result (child_key (rooted_content c.self.inside.nodes) k
    c.last_name.result.1.now)) found.1 c.child.ensures) (sym c.if-is_some.ensures) in
    subst (λ (t : MemoryTree). add_refusal t.content c.args.path.now ≡ Some Taken) c.self.view_is refused

pub returns : goal.returns
returns g c =
    let named = subst (λ o. MatchOption o (key_of c.args.path.now ≡ None) (λ names. AreNames c.args.path.now
    names.now)) c.in_ok-names.ensures.ok_part c.proper_names.ensures in
    let found = subst (IsDirectoryAt c.self.inside.nodes (directory_names c.last_name.result.0))
    c.in_ok-number.ensures.ok_part c.directory.ensures in
    let a_place = a_place c.self.inside.nodes c.self.inside.current c.args.path.now c.in_ok-names.names.now
    (directory_names c.last_name.result.0) c.last_name.result.1.now
    named.0 c.last_name.ensures.names c.in_ok-number.number c.child.result found.0 found.1 found.2 found.3 named.1 c.last_name.ensures.utf8
    (subst (λ k. Leads c.self.inside.nodes c.child.result (child_key (rooted_content c.self.inside.nodes) k
    c.last_name.result.1.now)) found.1 c.child.ensures) (sym c.if-is_some.ensures) in
    subst (λ (t : MemoryTree). IsPlace t.content c.args.path.now c.in_ok-number.number c.last_name.result.1.now) c.self.view_is a_place
