use Rattle.std.proofs.Common.{refl, arith}
use Rattle.glob_search.proofs.ActiveLemmas.{rules-given}
use Rattle.glob_search.proofs.EngineLemmas.Fresh.{fresh-few, fresh-none, fresh-start}
use Rattle.glob_search.proofs.EngineLemmas.Past.{start-none, start-past}
use Rattle.glob_search.proofs.searcher.Searcher.new.Goals.{then-depth-gt0, else-depth-gt0}
use Rattle.glob_search.proofs.searcher.Searcher.new.Goals as goal

pub returns : goal.returns
returns g c = record {
  begun = record {
    most = refl;
    spent = refl;
    deep = refl;
    kinds = refl;
    files = refl;
    rules = rules-given c.in_ok-active.active _ _ c.in_ok-active.ensures.first c.in_ok-active.ensures.files c.in_ok-active.ensures.last;
  };
  fresh = λ content known good. elim c.if-depth-gt0.branch [
    | then-depth-gt0 w ↦ fresh-start content good known _ _ (record {
      beginnings = c.in_ok-beginnings.ensures.beginnings;
      depth = refl;
      wanted = λ kind. refl;
      first = c.in_ok-active.ensures.first;
      last = c.in_ok-active.ensures.last;
    }) c.in_ok-active.ensures.files c.new.ensures.items (record {
      path = c.in_ok-path.path;
      alive = c.in_ok-alive.alive;
    }) w.entering-is c.in_ok-path.ensures.ok c.in_ok-alive.ensures.alive
        w.if-depth-gt0.true
    | else-depth-gt0 w ↦ fresh-none content good known _ _ (record {
      beginnings = c.in_ok-beginnings.ensures.beginnings;
      depth = refl;
      wanted = λ kind. refl;
      first = c.in_ok-active.ensures.first;
      last = c.in_ok-active.ensures.last;
    }) c.in_ok-active.ensures.files c.new.ensures.items w.entering-is (omega (arith, w.if-depth-gt0.false))
  ];
  past = elim c.if-depth-gt0.branch [
    | then-depth-gt0 w ↦ start-past c.in_ok-beginnings.beginnings (record { entering = c.if-depth-gt0.entering; frames = c.new.result })
        (record { path = c.in_ok-path.path; alive = c.in_ok-alive.alive })
        w.entering-is c.in_ok-path.ensures.ok c.in_ok-alive.ensures.alive c.new.ensures.items
    | else-depth-gt0 w ↦ start-none c.in_ok-beginnings.beginnings
        (record { entering = c.if-depth-gt0.entering; frames = c.new.result }) w.entering-is c.new.ensures.items
  ];
  patterns = c.in_ok-beginnings.ensures.beginnings;
  few = fresh-few c.args.settings.limit (record { entering = c.if-depth-gt0.entering; frames = c.new.result }) c.new.ensures.items;
  accepted = c.in_ok-beginnings.ensures.accepted;
  refused = tt;
}
