use Rattle.std.proofs.Common.{◌≡◌, ◌+◌, ◌≤◌, ◌++◌, map}
use Rattle.std.specs.Prelude.{IsTrue, filter_map, reverse, string_bytes, vec_len}
use Rattle.glob_tree.specs.Answers.{IsTold, entries_of}
use Rattle.glob_tree.specs.Content.{Content, Key, is_dir_at}
use Rattle.glob_search.specs.Aims.{path_of}
use Rattle.glob_search.specs.Private.Listings.{looked}
use Rattle.glob_search.proofs.EngineLemmas.Falling.{AreBefore}
use Rattle.glob_search.proofs.entries.look_up.Given as goal

abbrev pub invariant-loop-name : goal.invariant-loop-name
invariant-loop-name g l = record {
  limit : l.meter.limit ≡ l.initial.meter.limit;
  charged : l.initial.meter.spent + vec_len l.entries ≤ l.meter.spent;
  asked : g.T.Tree.asks l.tree + l.initial.meter.spent ≤ g.T.Tree.asks l.initial.tree + l.meter.spent;
  content : g.T.Tree.tells l.tree ≡ g.T.Tree.tells l.initial.tree;
  entries : (c : Content) (names : Key) → IsTold (g.T.Tree.tells l.initial.tree) c → IsTrue
      (is_dir_at c (c.current ++ names)) → string_bytes l.opening.path ≡ path_of names
      → filter_map (looked c names) (reverse (map (λ t. t.now) l.initial.names.items)) ≡ entries_of l.entries.items ++
      filter_map (looked c names) (reverse (map (λ t. t.now) l.names.items));
  falls : AreBefore (map (λ t. t.now) l.names.items) l.entries.items;
}

abbrev pub decreases-loop-name : goal.decreases-loop-name
decreases-loop-name g l = vec_len l.names
