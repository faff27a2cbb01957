-- What a refusal of one pattern says.
use Rattle.std.specs.Prelude.{List, ⊤}
use Rattle.glob_pattern.specs.declared.error.PatternRefusal.{PatternRefusal}
use Rattle.glob_pattern.specs.declared.error.PatternRefusal.TheVariants.{Syntax, Memory}
use Rattle.glob_text.specs.Text.{Text}
use Rattle.glob_search.specs.Refusals.{HasFault}

-- the fault of the first text with a fault, or a failed allocation
abbrev pub RefusesFirst : (texts : List Text) → PatternRefusal → Type 0
RefusesFirst texts (Syntax e) = HasFault texts e
RefusesFirst texts Memory = ⊤
