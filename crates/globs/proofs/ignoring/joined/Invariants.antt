-- The text so far and the lines of the other sources are the lines of all sources.
use Rattle.std.proofs.Common.{◌≡◌, ◌++◌, drop, map, string_bytes}
use Rattle.glob_lines.specs.Lines.{line_feed, with_ends}
use Rattle.globs.proofs.ignoring.joined.Given as goal

abbrev pub invariant-loop-source : goal.invariant-loop-source
invariant-loop-source g l =
    string_bytes l.text ++ with_ends line_feed (map (λ s. string_bytes s.text) (drop l.source-index l.sources))
    ≡ with_ends line_feed (map (λ s. string_bytes s.text) l.sources)
