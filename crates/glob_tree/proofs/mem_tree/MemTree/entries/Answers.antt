use Rattle.std.proofs.Common.{◌≡◌, [], sym, ap, subst, ◌∙◌, Option, Some, None, Result, Ok, Err}
use Rattle.std.specs.IoError.{error_kind}
use Rattle.std.specs.Result.{IsErrAnd, IfErr}
use Rattle.std.specs.declared.io.ErrorKind.{ErrorKind}
use Rattle.glob_tree.specs.declared.tree.ListError.{ListError}
use Rattle.glob_tree.specs.declared.tree.ListError.TheVariants.{Memory, Read}
use Rattle.glob_tree.specs.Answers.{IsListError, IsListFault, entries_of}
use Rattle.glob_tree.specs.Content.{list_result, Entries}
use Rattle.glob_tree.specs.Memory.{MemoryTree, list_fault, IsFaultOf}
use Rattle.glob_tree.specs.Private.Nodes.{key_numbered}
use Rattle.glob_tree.specs.declared.kind.Kind.TheVariants.{Dir, Shut, Other}
use Rattle.glob_tree.proofs.MemoryLemmas.Answering.{nothing_there, kind_there, children_any}
use Rattle.glob_tree.proofs.MemoryLemmas.Refusing.{error_is, fails_by}
use Rattle.glob_tree.proofs.mem_tree.MemTree.entries.Goals as goal

-- an allocation failure is an error for a listing that should not fail
fault_of_memory : {T : Type 0} (fault : Option ErrorKind) (r : Result T ListError) → IsErrAnd r (λ e. e ≡ Memory)
    → fault ≡ None → IfErr r (IsFaultOf fault)
fault_of_memory fault (Ok x) is none = tt
fault_of_memory fault (Err e) is none = subst (IsFaultOf fault) (sym is) none

pub returns-in_err-number-clause-fails : goal.returns-in_err-number-clause-fails
returns-in_err-number-clause-fails g c =
    let answers = nothing_there c.self.inside.nodes c.self.inside.current c.args.path.now c.find.result c.find.ensures
    c.in_err-number.ensures.ok_part in
    let fault = subst (λ answer. IsListFault answer (error_kind c.from.result)) (sym answers.list) tt in
    let of_view = subst (λ (t : MemoryTree). IsListFault (list_result t.content c.args.path.now)
    (error_kind c.from.result)) c.self.view_is fault in
    let is = error_is c.find.result (Read c.from.result) c.in_err-number.field-0.0 (sym c.ok_or.ensures.value
    ∙ c.in_err-number.was) c.in_err-number.ensures.ok_part in
    fails_by (IsListError (list_result c.args.self.now.content c.args.path.now)) c.from_residual.result
    c.in_err-number.field-0.0 c.from_residual.ensures.1
    (subst (IsListError (list_result c.args.self.now.content c.args.path.now)) (sym is) of_view)

pub returns-in-Shut-clause-fails : goal.returns-in-Shut-clause-fails
returns-in-Shut-clause-fails g c =
    let answers = kind_there c.self.inside.nodes c.self.inside.current c.args.path.now c.find.result
    c.in_ok-number.number (Shut c.in-Shut.kind) c.find.ensures c.in_ok-number.ensures.ok_part
    c.in-Shut.ensures.stands in
    let fault = subst (λ answer. IsListFault answer (error_kind c.from-in-Shut.result)) (sym answers.list) c.from-in-Shut.ensures in
    subst (λ (t : MemoryTree). IsListFault (list_result t.content c.args.path.now) (error_kind c.from-in-Shut.result)) c.self.view_is fault

pub returns-in-Shut-clause-fault : goal.returns-in-Shut-clause-fault
returns-in-Shut-clause-fault g c =
    let answers = kind_there c.self.inside.nodes c.self.inside.current c.args.path.now c.find.result
    c.in_ok-number.number (Shut c.in-Shut.kind) c.find.ensures c.in_ok-number.ensures.ok_part
    c.in-Shut.ensures.stands in
    subst (λ (t : MemoryTree). list_fault t.content c.args.path.now ≡ Some (error_kind c.from-in-Shut.result))
    c.self.view_is (answers.fault ∙ ap Some (sym c.from-in-Shut.ensures))

pub returns-in-Other-clause-fails : goal.returns-in-Other-clause-fails
returns-in-Other-clause-fails g c =
    let answers = kind_there c.self.inside.nodes c.self.inside.current c.args.path.now c.find.result
    c.in_ok-number.number Other c.find.ensures c.in_ok-number.ensures.ok_part c.in-Other.ensures.stands in
    let fault = subst (λ answer. IsListFault answer (error_kind c.from-in-Other.result)) (sym answers.list) tt in
    subst (λ (t : MemoryTree). IsListFault (list_result t.content c.args.path.now) (error_kind c.from-in-Other.result)) c.self.view_is fault

pub returns-in-Other-clause-fault : goal.returns-in-Other-clause-fault
returns-in-Other-clause-fault g c =
    let answers = kind_there c.self.inside.nodes c.self.inside.current c.args.path.now c.find.result
    c.in_ok-number.number Other c.find.ensures c.in_ok-number.ensures.ok_part c.in-Other.ensures.stands in
    subst (λ (t : MemoryTree). list_fault t.content c.args.path.now ≡ Some (error_kind c.from-in-Other.result))
    c.self.view_is (answers.fault ∙ ap Some (sym c.from-in-Other.ensures))

pub returns-in_ok-entries-in-Dir-clause-entries : goal.returns-in_ok-entries-in-Dir-clause-entries
returns-in_ok-entries-in-Dir-clause-entries g c =
    let answers = kind_there c.self.inside.nodes c.self.inside.current c.args.path.now c.find.result
    c.in_ok-number.number Dir c.find.ensures c.in_ok-number.ensures.ok_part c.in-Dir.ensures.stands in
    let k = (key_numbered c.self.inside.nodes c.in_ok-number.number) in
    let all = answers.list ∙ ap Entries (children_any c.self.inside.nodes (key_numbered c.self.inside.nodes
    c.self.inside.current) [] k ∙ sym c.in_ok-entries-in-Dir.ensures) in
    subst (λ (t : MemoryTree). list_result t.content c.args.path.now ≡ Entries
    (entries_of c.in_ok-entries-in-Dir.field-0.items)) c.self.view_is all

pub returns-in_err-entries-in-Dir-clause-fault : goal.returns-in_err-entries-in-Dir-clause-fault
returns-in_err-entries-in-Dir-clause-fault g c =
    let answers = kind_there c.self.inside.nodes c.self.inside.current c.args.path.now c.find.result
    c.in_ok-number.number Dir c.find.ensures c.in_ok-number.ensures.ok_part c.in-Dir.ensures.stands in
    let none = subst (λ (t : MemoryTree). list_fault t.content c.args.path.now ≡ None) c.self.view_is answers.fault in
    fault_of_memory _ c.from_residual-in_err-entries-in-Dir.result c.from_residual-in_err-entries-in-Dir.ensures.1 none
