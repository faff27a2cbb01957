-- What each step appends to the pattern.
use Rattle.std.specs.Prelude.{ℕ, Bool, ◌&&◌, ◌||◌, nat_le, ◌==◌, List, [], ◌∷◌, ◌++◌}
use Rattle.std.specs.List.{filter, list_any}
use Rattle.glob_text.specs.Characters.{slash}
use Rattle.glob_text.specs.Text.{Text}
use Rattle.glob_pattern.specs.Grammar.Characters.{star, open_bracket, close_bracket}
use Rattle.glob_rules.specs.Classes.{class_has}
use Rattle.glob_rules.specs.declared.steps.BracketSpan.{BracketSpan}
use Rattle.glob_rules.specs.declared.steps.BracketSpan.TheVariants.{Between, OfClass}
use Rattle.glob_rules.specs.declared.steps.Writing.{Writing}
use Rattle.glob_rules.specs.declared.steps.Writing.TheVariants.{Nothing, Byte, Bracketed, StarSlash, SlashStars, Held}
use Rattle.glob_rules.specs.declared.listing.TheConstants.{ORDER}

-- whether c is in the range, ends included, or in the class
abbrev pub is_within : ℕ → BracketSpan → Bool
is_within c (Between first last) = nat_le first c && nat_le c last
is_within c (OfClass class) = class_has class c

-- Whether a bracket with these spans lists c. Every bracket lists `/`, which none matches under the separator rule.
abbrev pub holds : List BracketSpan → ℕ → Bool
holds spans c = c == slash || list_any (is_within c) spans

-- the characters of a bracket, in the order in which they are written
unfoldable pub held : List BracketSpan → Text
held spans = filter (holds spans) ORDER

-- what a step appends, if the bracket has these spans
abbrev pub written : List BracketSpan → Writing → Text
written spans Nothing = []
written spans (Byte c) = c ∷ []
written spans (Bracketed c) = open_bracket ∷ c ∷ close_bracket ∷ []
written spans StarSlash = star ∷ slash ∷ []
written spans SlashStars = slash ∷ star ∷ star ∷ slash ∷ []
written spans Held = held spans ++ close_bracket ∷ []
