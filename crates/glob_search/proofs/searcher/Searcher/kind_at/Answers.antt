use Rattle.glob_search.proofs.EngineLemmas.Looking.{kind-learned}
use Rattle.glob_search.proofs.searcher.Searcher.kind_at.Goals as goal

pub returns-clause-kind : goal.returns-clause-kind
returns-clause-kind g c = λ content kind told found known.
    kind-learned content c.args.path.now kind c.in_ok-seen.seen c.is_dir.result (c.in_ok-seen.ensures.seen content
    told) found c.is_dir.ensures
