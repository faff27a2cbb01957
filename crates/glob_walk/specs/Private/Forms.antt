-- What is kept of a component.
use Rattle.std.specs.Prelude.{◌≡◌, Bool, ◌&&◌, not, if◌then◌else◌, [], ◌∷◌, Option, string_bytes, chars, bytes_eq}
use Rattle.std.specs.Str.{str_eq_ignore_ascii_case}
use Rattle.std.specs.Result.{result_err}
use Rattle.glob_text.specs.Text.{Text}
use Rattle.glob_pattern.specs.Grammar.Characters.{star}
use Rattle.glob_pattern.specs.declared.options.MatchOptions.{MatchOptions}
use Rattle.glob_pattern.specs.Grammar.Faults.{Fault}
use Rattle.glob_pattern.specs.Computing.Reading.{reading_of}
use Rattle.glob_walk.specs.Components.{ComponentKind, Literal, Recursive, Wild, component_kind, is_recursive, matches_name}
use Rattle.glob_walk.specs.declared.component.Form.{Form}
use Rattle.glob_walk.specs.declared.component.Form.TheVariants as form

-- the text of the component
abbrev pub form_text : {A : Type 0} → Form A → Text
form_text (form.Literal text) = string_bytes text
form_text form.Recursive = star ∷ star ∷ []
form_text (form.Wild pattern) = pattern

abbrev pub form_kind : {A : Type 0} → Form A → ComponentKind
form_kind (form.Literal text) = Literal
form_kind form.Recursive = Recursive
form_kind (form.Wild pattern) = Wild

-- the form has the kind of its text
abbrev pub KeepsKind : {A : Type 0} → Form A → Type 0
KeepsKind f = component_kind (form_text f) ≡ form_kind f

-- the component matches the name; `**` matches no name
abbrev pub takes_name : MatchOptions → (component name : Text) → Bool
takes_name o component name = not (is_recursive component) && matches_name o component name

-- the fault of a text by itself
abbrev pub text_fault : Text → Option Fault
text_fault t = result_err (reading_of (chars t))

-- the texts are equal, case-sensitively or not
abbrev pub same_texts : (case : Bool) → Text → Text → Bool
same_texts case text other = if case then bytes_eq text other else str_eq_ignore_ascii_case text other
