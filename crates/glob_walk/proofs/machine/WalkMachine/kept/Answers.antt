use Rattle.std.proofs.Common.{◌<◌, length, arith}
use Rattle.glob_walk.specs.Walks.{levels}
use Rattle.glob_walk.proofs.WalkLemmas.MachineSteps.{kept_few}
use Rattle.glob_walk.proofs.machine.WalkMachine.kept.Goals as goal

pub returns-clause-few : goal.returns-clause-few
returns-clause-few g c = λ c' content agrees plain.
    let walker = c.self.inside.walker in
    let few : length walker.stack.frames.items < levels c' =
    kept_few c' walker c.self.inside.given c.self.inside.over c.args.self.now c.self.view_is content agrees plain in
    omega (arith, few, c.len.ensures, walker.stack.frames.ok.0)
