-- The first bytes of the character have been read.
use Rattle.std.proofs.Common.{◌≡◌, fold, take}
use Rattle.glob_set.specs.Private.Components.{after}
use Rattle.glob_set.proofs.components.Component.after_char.Given as goal

abbrev pub invariant-loop-byte : goal.invariant-loop-byte
invariant-loop-byte l = l.component ≡ fold after l.fn.self (take l.byte-index l.byte-items)
