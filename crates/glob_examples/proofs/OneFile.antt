-- Where a path leads in a tree with one file.
use Rattle.std.proofs.Common.{◌≡◌, Bool, true, false, if◌then◌else◌, List, [], ◌∷◌, length, ◌==◌, Some, None, bytes_eq}
use Rattle.std.proofs.Common.{option_and_then, arith, refl, sym, ap, IsPermutation, ◌∙◌, subst}
use Rattle.std.specs.Path.{parent_dir}
use Rattle.std.proofs.lemmas.Bool.{eqb-true, true≢false}
use Rattle.std.proofs.lemmas.List.Sorted.{IsPermutation-refl}
use Rattle.std.specs.declared.io.ErrorKind.{ErrorKind}
use Rattle.std.proofs.lemmas.Option.{same_Some}
use Rattle.std.proofs.lemmas.Slice.Eq.{bytes_eq-Decides}
use Rattle.glob.specs.Answers.{IsTold, IsListAnswer, IsListFault}
use Rattle.glob.specs.Content.{Content, DirEntry, ListAnswer, Entries, NoDirectory, list_found, list_result, children}
use Rattle.glob.specs.Content.{is_dir_at, kind_at, step, steps, resolve, look_result, look_of}
use Rattle.glob.specs.Characters.{slash}
use Rattle.glob.specs.Paths.{stays}
use Rattle.glob.specs.Pieces.{pieces}
use Rattle.glob.specs.Text.{Text}
use Rattle.glob.specs.Types.{Look}
use Rattle.glob.specs.Variants.Look as look
use Rattle.glob_examples.specs.OneFile.{key_seen, one_file}

bytes_eq-same : (text : Text) → bytes_eq text text ≡ true
bytes_eq-same text = (bytes_eq-Decides text text).1 refl

module _ (name : Text) where
  -- the file is not a directory
  pub file_is_no_directory : is_dir_at (one_file name) (name ∷ []) ≡ false
  unfolding kind_at
  file_is_no_directory = by (bytes_eq name name) refl
    where
      by : (b : Bool) → bytes_eq name name ≡ b → is_dir_at (one_file name) (name ∷ []) ≡ false
      by true e = rw e
      by false e = rw e

  -- where a piece leads from the root: it stays, or leads to the file, or nowhere
  pub root_step : (piece : Text) → step (one_file name) piece []
      ≡ (if stays piece then Some [] else if bytes_eq piece parent_dir then Some [] else if bytes_eq piece name then
      Some (name ∷ []) else None)
  unfolding kind_at
  root_step piece = by (bytes_eq piece name) refl
    where
      by : (b : Bool) → bytes_eq piece name ≡ b → step (one_file name) piece []
          ≡ (if stays piece then Some [] else if bytes_eq piece parent_dir then Some [] else if bytes_eq piece name then
          Some (name ∷ []) else None)
      by true e =
          let same : piece ≡ name = (bytes_eq-Decides piece name).0 e in
          rw e (ap (λ n. if stays piece then Some [] else if bytes_eq piece parent_dir then Some [] else Some (n ∷ [])) same)
      by false e = rw e

  -- from the file no piece leads anywhere
  pub file_step : (piece : Text) → step (one_file name) piece (name ∷ []) ≡ None
  file_step piece = rw file_is_no_directory

  -- a look at the key shows what is there
  pub seen_at_key : (seen : Look) → look_of (option_and_then (kind_at (one_file name)) (key_seen name seen)) ≡ seen
  unfolding kind_at
  seen_at_key look.Dir = refl
  seen_at_key look.Missing = refl
  seen_at_key look.Other = rw (bytes_eq-same name)

  -- the empty path leads nowhere
  pub nowhere : (path : Text) → (length path == 0) ≡ true → resolve (one_file name) path ≡ None
  unfolding resolve
  nowhere [] empty = refl
  nowhere (c ∷ cs) empty = absurd (omega (arith, eqb-true _ _ empty))

  -- any other path leads where its pieces lead in turn from the root
  pub leads : (path : Text) → (length path == 0) ≡ false → resolve (one_file name) path ≡ steps (one_file name) (Some []) (pieces path)
  unfolding resolve
  leads [] full = absurd (true≢false full)
  leads (c ∷ cs) full = by (c == slash) refl
    where
      by : (b : Bool) → (c == slash) ≡ b → steps (one_file name) (Some (if c == slash then [] else []))
          (pieces (c ∷ cs)) ≡ steps (one_file name) (Some []) (pieces (c ∷ cs))
      by true e = rw e
      by false e = rw e

  -- a look returns what is at the key
  pub look_there : (path : Text) (seen : Look) → resolve (one_file name) path ≡ key_seen name seen → look_result (one_file name) path ≡ seen
  unfolding look_result
  look_there path seen leads = ap (λ k. look_of (option_and_then (kind_at (one_file name)) k)) leads ∙ seen_at_key seen

  -- the file, if a directory is there, and otherwise no listing
  abbrev pub listed : Look → ListAnswer
  listed look.Dir = Entries ((name, false) ∷ [])
  listed look.Other = NoDirectory
  listed look.Missing = NoDirectory

  listed_at_key : (seen : Look) → list_found (one_file name) (key_seen name seen) ≡ listed seen
  unfolding kind_at children
  listed_at_key look.Dir = refl
  listed_at_key look.Missing = refl
  listed_at_key look.Other = rw (bytes_eq-same name)

  pub list_there : (path : Text) (seen : Look) → resolve (one_file name) path ≡ key_seen name seen →
      list_result (one_file name) path ≡ listed seen
  unfolding list_result
  list_there path seen leads = ap (list_found (one_file name)) leads ∙ listed_at_key seen

  -- the tree's content is this one
  pub told_content : (c : Content) → IsTold (Some (one_file name)) c → one_file name ≡ c
  told_content c told = same_Some (one_file name) c told.0

  module _ (c : Content) (told : IsTold (Some (one_file name)) c) (path : Text) (seen : Look)
      (leads : resolve (one_file name) path ≡ key_seen name seen) where
    list_told : list_result c path ≡ listed seen
    list_told = ap (λ tree. list_result tree path) (sym (told_content c told)) ∙ list_there path seen leads

    -- a listing of the root has only the file
    pub file_is_listed : seen ≡ look.Dir → (entries : List DirEntry) → entries ≡ (name, false) ∷ [] →
        IsListAnswer (list_result c path) entries
    file_is_listed is entries are =
        subst (λ answer. IsListAnswer answer entries) (sym (list_told ∙ ap listed is))
        (subst (λ es. IsPermutation ((name, false) ∷ []) es) (sym are) (IsPermutation-refl ((name, false) ∷ [])))

    -- a listing of anything else fails, for any reason
    pub nothing_is_listed : listed seen ≡ NoDirectory → (kind : ErrorKind) → IsListFault (list_result c path) kind
    nothing_is_listed is kind = subst (λ answer. IsListFault answer kind) (sym (list_told ∙ is)) tt
