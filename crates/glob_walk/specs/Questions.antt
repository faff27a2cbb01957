-- What a walk asks.
use Rattle.std.specs.Prelude.{◌≡◌, ℕ, Bool, true, [], Option, Some, None, Result, Vec, IfOk, IfErr}
use Rattle.glob_text.specs.Text.{Text}
use Rattle.glob_tree.specs.Content.{Content, is_content, look_result, list_result}
use Rattle.glob_tree.specs.Answers.{IsEntriesAnswer, IsListError, entries_of}
use Rattle.glob_tree.specs.declared.tree.Look.{Look}
use Rattle.glob_tree.specs.declared.tree.Entry.{Entry}
use Rattle.glob_tree.specs.declared.tree.ListError.{ListError}

-- what a path leads to, or the entries of the directory there, with kinds or only names
pub data Question : Type 0 where
  LookAt : Text → Question
  ListAt : (kinds : Bool) → Text → Question

abbrev pub question_path : Option Question → Text
question_path None = []
question_path (Some (LookAt path)) = path
question_path (Some (ListAt kinds path)) = path

-- the cost of the open question
abbrev pub question_units : Option Question → ℕ
question_units None = 0
question_units (Some q) = 1

-- the question is a look
abbrev pub IsLook : Option Question → Type 0
IsLook (Some (LookAt path)) = Unit {0}
IsLook _ = ⊥

-- the question is a listing, of entries or of names
abbrev pub IsList : Option Question → Type 0
IsList (Some (ListAt kinds path)) = Unit {0}
IsList _ = ⊥

-- the question is a listing, with the kinds of the entries or without
abbrev pub IsListWith : Bool → Option Question → Type 0
IsListWith kinds (Some (ListAt wanted path)) = wanted ≡ kinds
IsListWith kinds _ = ⊥

-- the content is well formed
abbrev pub IsSomeContent : Content → Type 0
IsSomeContent c = is_content c ≡ true

-- this is the content's answer to the look, unless memory ran out
abbrev pub IsSeenIn : {E : Type 0} → Option Question → Result Look E → Content → Type 0
IsSeenIn (Some (LookAt path)) answer c = IsSomeContent c × IfOk answer (λ seen. seen ≡ look_result c path)
IsSeenIn _ answer c = ⊥

-- this is the content's answer to the listing, unless memory ran out
abbrev pub IsListedIn : {A : Type 0} → Option Question → Result (Vec (Entry A) A) ListError → Content → Type 0
IsListedIn (Some (ListAt kinds path)) answer c = IsSomeContent c
    × IfOk answer (λ v. IsEntriesAnswer kinds (list_result c path) (entries_of v.items))
    × IfErr answer (λ e. IsListError (list_result c path) e)
IsListedIn _ answer c = ⊥
