-- What contracts see of a search.
use Rattle.glob_search.specs.States.{Progress, SearchState}
use Rattle.glob_search.specs.Private.Active.{rules_here}
use Rattle.glob_search.specs.Private.Engine.{IsSound, file_names}
use Rattle.glob_search.specs.Private.Nodes.{AreBeginnings}
use Rattle.glob_search.specs.Private.Order.{IsPastSearch}
use Rattle.glob_search.specs.Private.Ways.{IsDone, search_left}
use Rattle.glob_search.specs.Private.Weights.{items_left}
use Rattle.glob_search.specs.declared.searcher.Searcher.{Searcher}

-- what contracts know of a searcher
abbrev pub Find : Type 0 → Progress
Find A = record {
  State = Searcher A;
  left = search_left;
  Agrees = IsSound;
  IsPast = IsPastSearch;
  HasPatterns = λ a s. AreBeginnings a.options a.patterns s.beginnings;
  IsEnded = λ s. IsDone s.way;
}

-- what contracts see of a search
abbrev pub state_of : {A : Type 0} → Searcher A → SearchState (Find A)
state_of s = record {
  limit = s.meter.limit;
  spent = s.meter.spent;
  depth = s.depth;
  kinds = s.kinds;
  files = file_names s;
  rules = rules_here s.active;
  remaining = items_left s.meter s.way;
  state = s;
}
