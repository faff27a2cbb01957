use Rattle.std.proofs.Common.{◌≡◌, map}
use Rattle.std.specs.List.{All}
use Rattle.glob_examples.specs.Names.{IsComponent}
use Rattle.glob_examples.specs.NameTable.{shape_of}
use Rattle.glob_examples.proofs.names.pattern.PathPattern.new.Given as goal

abbrev pub invariant-loop-component : goal.invariant-loop-component
invariant-loop-component g l = record {
  read : l.components.items ≡ map (λ component. component.now) l.yielded;
  shaped : l.shapes.items ≡ map shape_of l.components.items;
  accepted : All IsComponent l.components.items;
}
