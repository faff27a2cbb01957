use Rattle.std.proofs.Common.{◌≡◌, ◌++◌, flat_map, map, string_bytes, take}
use Rattle.glob_search.specs.Private.Nodes.{literal_texts}
use Rattle.glob_search.proofs.beginnings.Beginnings.literals_of.Given as goal

abbrev pub invariant-loop-number : goal.invariant-loop-number
invariant-loop-number g l = map (λ t. t.now) l.names.items ≡ flat_map (literal_texts l.fn.self.nodes.items) (take l.number-index l.fn.alive)

abbrev pub invariant-loop-literal : goal.invariant-loop-literal
invariant-loop-literal g l =
    map (λ t. t.now) l.names.items ≡ map (λ t. t.now) l.initial.names.items ++ map (λ m. string_bytes m.text)
    (take l.literal-index l.literal-items)
