use Rattle.std.proofs.Common.{[], refl}
use Rattle.glob_walk.specs.Machines.{listing_of}
use Rattle.glob_walk.proofs.WalkLemmas.Giving.{given_fresh}
use Rattle.glob.proofs.paths.Paths.new.Goals as goal

pub invariant_of-result : goal.invariant_of-result
invariant_of-result g c = record {
  free = c.requires.asked;
  gave = λ x told going. ([], given_fresh _ (listing_of x c.args.machine.aim) x c.args.machine c.requires refl);
}
