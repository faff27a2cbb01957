use Rattle.std.proofs.Common.{Result, Ok, Err, IfErr, IfOk, IsErrAnd, subst}
use Rattle.glob_text.specs.Text.{Text}
use Rattle.glob_walk.specs.Walks.{listing}
use Rattle.glob_walk.proofs.WalkLemmas.Giving.{given_fresh}
use Rattle.glob_console.specs.declared.find.fault.FindFault.{FindFault}
use Rattle.glob_console.specs.declared.find.fault.FindFault.TheVariants.{Pattern, Memory, Write}
use Rattle.glob_console.specs.FoundPaths.{FindsPaths, IsFindFault, IsRefusal, IsWriting}
use Rattle.glob_console.proofs.find.find_in.Goals as goal

-- a fault of writing is a possible fault for any pattern
find_fault_of_writing : {T : Type 0} (r : Result T FindFault) (pattern : Text) → IfErr r IsWriting → IfErr r (IsFindFault pattern)
find_fault_of_writing (Ok x) pattern is = tt
find_fault_of_writing (Err (Pattern refusal)) pattern is = absurd is
find_fault_of_writing (Err Memory) pattern is = tt
find_fault_of_writing (Err (Write error)) pattern is = tt

-- and it is not a refusal
no_refusal_of_writing : {T : Type 0} (r : Result T FindFault) → IfErr r IsWriting → IsErrAnd r IsRefusal → ⊥
no_refusal_of_writing (Ok x) is refuses = refuses
no_refusal_of_writing (Err (Pattern refusal)) is refuses = is
no_refusal_of_writing (Err Memory) is refuses = refuses
no_refusal_of_writing (Err (Write error)) is refuses = refuses

pub returns-clause-fault : goal.returns-clause-fault
returns-clause-fault g c = find_fault_of_writing _ c.args.walk.pattern.now c.write_items.ensures.fault

pub returns-clause-kept : goal.returns-clause-kept
returns-clause-kept g c = λ refuses. absurd (no_refusal_of_writing _ c.write_items.ensures.fault refuses)

pub returns-clause-paths : goal.returns-clause-paths
returns-clause-paths g c c' told =
    let held = g.W.Write.contents in
    let ms = listing c' c.args.walk.options c.args.walk.pattern.now in
    subst (λ limit. IfOk c.write_items.result
    (FindsPaths c.args.walk.end (g.C.Choice.wanted c.args.choice.now c') ms limit (held c.args.output.now) (held c.write_items.new.output)))
    c.in_ok-machine.ensures.fresh.limit (c.write_items.ensures.paths c' told ms (given_fresh c.args.walk.limit
    (listing c' c.args.walk.options c.args.walk.pattern.now) c' c.in_ok-machine.machine
    c.in_ok-machine.ensures.fresh (c.in_ok-machine.ensures.aim c')))

pub returns-clause-some : goal.returns-clause-some
returns-clause-some g c c' told =
    c.write_items.ensures.some c' told (listing c' c.args.walk.options c.args.walk.pattern.now)
    (given_fresh c.args.walk.limit (listing c' c.args.walk.options c.args.walk.pattern.now) c'
    c.in_ok-machine.machine c.in_ok-machine.ensures.fresh (c.in_ok-machine.ensures.aim c'))
