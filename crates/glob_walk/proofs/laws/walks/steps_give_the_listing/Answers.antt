use Rattle.std.proofs.Common.{◌++◌, refl, ap, sym, ◌∙◌}
use Rattle.glob_walk.specs.Machines.{left_of, listing_of}
use Rattle.glob_walk.specs.Walks.{items}
use Rattle.glob_walk.proofs.ListingLemmas.Marks.{items-append}
use Rattle.glob_walk.proofs.WalkLemmas.Giving.{given_fresh}
use Rattle.glob_walk.proofs.laws.walks.steps_give_the_listing.Goals as goal

pub returns : goal.returns
returns g c = record {
  fresh = λ most t walk fresh. given_fresh most (listing_of t walk.aim) t walk fresh refl;
  begins = λ listing t given walk h.
      let left = items (left_of t walk) in
      (left, ap items h.upto.whole ∙ items-append h.upto.done (left_of t walk) ∙ ap (λ is. is ++ left) (sym h.upto.same));
}
