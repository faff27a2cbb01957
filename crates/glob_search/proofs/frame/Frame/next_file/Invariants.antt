use Rattle.std.proofs.Common.{◌≡◌, ℕ, ◌-◌, ◌<◌, ◌≤◌, length, map, get_or, [], string_bytes}
use Rattle.glob_search.specs.Private.Steps.{IsAbsent}
use Rattle.glob_search.proofs.frame.Frame.next_file.Given as goal

abbrev pub invariant-loop-self : goal.invariant-loop-self
invariant-loop-self g l = record {
  same : l.self ≡ record l.initial.self { files = l.self.files };
  more : l.initial.self.files ≤ l.self.files;
  absent : (k : ℕ) → l.initial.self.files ≤ k → k < l.self.files → IsAbsent l.initial.self
      (get_or (map (λ name. string_bytes name) l.names) k []);
}

abbrev pub decreases-loop-self : goal.decreases-loop-self
decreases-loop-self g l = length l.names - l.self.files
