use Rattle.std.proofs.Common.{None, refl, ap, sym, ◌∙◌}
use Rattle.glob_search.specs.Private.Active.{after}
use Rattle.glob_search.specs.Private.Entering.{entered_of}
use Rattle.glob_search.proofs.directories.Directories.none.Goals as goal

pub returns-clause-fresh : goal.returns-clause-fresh
returns-clause-fresh g c = λ a known fits. record {
  last = None;
  at = record {
    rules = fits.reads;
    first = c.in_ok-new.ensures.first ∙ ap (after 0) (sym fits.begins);
    outer = c.in_ok-new.ensures.last ∙ sym fits.ends;
    files = c.in_ok-new.ensures.files;
    sources = c.in_ok-new.ensures.sources;
    entered = ap entered_of c.new-2.ensures.items;
    proper = refl;
    kept = refl;
  };
}
