-- What is received, one name after another.
use Rattle.std.proofs.Common.{◌≡◌, ◌++◌, ◌∷◌, [], cond, Bool, true, false, not, List, Option, None, Some, refl, ap, sym, ◌∙◌}
use Rattle.std.specs.Str.{IsUtf8, is_utf8}
use Rattle.std.proofs.lemmas.List.{append_assoc, append-nil, map-append}
use Rattle.std.proofs.lemmas.List.Elements.{filter-append}
use Rattle.std.proofs.lemmas.Str.{IsUtf8-from_is_utf8, is_utf8-from_IsUtf8}
use Rattle.glob_text.specs.Text.{Text}
use Rattle.glob_tree.specs.Answers.{entries_of, names_of}
use Rattle.glob_tree.specs.Content.{DirEntry}
use Rattle.glob_tree.specs.declared.tree.Entry.{Entry}
use Rattle.glob_tree.specs.Strays.{and_then, Grows, texts_of, strays_of}

-- receiving nothing changes nothing
pub and_then-nil : (known : Option (List Text)) → and_then known [] ≡ known
and_then-nil None = refl
and_then-nil (Some xs) = ap Some (append-nil xs)

-- receiving twice is receiving both together
pub and_then-append : (known : Option (List Text)) (xs ys : List Text) → and_then (and_then known xs) ys ≡ and_then known (xs ++ ys)
and_then-append None xs ys = refl
and_then-append (Some zs) xs ys = ap Some (append_assoc zs xs ys)

pub grows_none : (known : Option (List Text)) → Grows known known
grows_none known = ([], sym (and_then-nil known))

-- if nothing changed, what was received still grew by nothing
pub grows_same : (old new : Option (List Text)) → new ≡ old → Grows old new
grows_same old new same = ([], same ∙ sym (and_then-nil old))

pub grows_then : (old mid new : Option (List Text)) → Grows old mid → Grows mid new → Grows old new
grows_then old mid new (xs, first) (ys, then) = (xs ++ ys, then ∙ ap (λ o. and_then o ys) first ∙ and_then-append old xs ys)

no_text_by : (name : Text) (b : Bool) → is_utf8 name ≡ b → (IsUtf8 name → ⊥) → is_utf8 name ≡ false
no_text_by name true is none = absurd (none (IsUtf8-from_is_utf8 name is))
no_text_by name false is none = is

no_text : (name : Text) → (IsUtf8 name → ⊥) → is_utf8 name ≡ false
no_text name none = no_text_by name (is_utf8 name) refl none

-- a UTF-8 name is listed
pub text_listed : (names : List Text) (name : Text) → IsUtf8 name → texts_of (names ++ name ∷ []) ≡ texts_of names ++ name ∷ []
text_listed names name is = filter-append is_utf8 names (name ∷ []) ∙ ap (λ t. texts_of names ++ cond t (name ∷ []) [])
    (is_utf8-from_IsUtf8 name is)

-- a UTF-8 name is not a stray
pub text_no_stray : (names : List Text) (name : Text) → IsUtf8 name → strays_of (names ++ name ∷ []) ≡ strays_of names
text_no_stray names name is =
    filter-append (λ n. not (is_utf8 n)) names (name ∷ []) ∙ ap (λ t. strays_of names ++ cond (not t) (name ∷ []) [])
    (is_utf8-from_IsUtf8 name is)
    ∙ append-nil (strays_of names)

-- a non-UTF-8 name is not listed
pub stray_left_out : (names : List Text) (name : Text) → (IsUtf8 name → ⊥) → texts_of (names ++ name ∷ []) ≡ texts_of names
stray_left_out names name none =
    filter-append is_utf8 names (name ∷ []) ∙ ap (λ t. texts_of names ++ cond t (name ∷ []) []) (no_text name none)
    ∙ append-nil (texts_of names)

-- a non-UTF-8 name is a stray
pub stray_received : (names : List Text) (name : Text) → (IsUtf8 name → ⊥) → strays_of (names ++ name ∷ []) ≡ strays_of names ++ name ∷ []
stray_received names name none =
    filter-append (λ n. not (is_utf8 n)) names (name ∷ []) ∙ ap (λ t. strays_of names ++ cond (not t) (name ∷ []) []) (no_text name none)

-- one more entry adds its name
pub names_more : {A : Type 0} (entries : List (Entry A)) (e : Entry A) → names_of (entries_of (entries ++ e ∷ [])) ≡
    names_of (entries_of entries) ++ e.name ∷ []
names_more entries e =
    ap names_of (map-append (λ (x : Entry _). (x.name, x.is_dir)) entries (e ∷ []))
    ∙ map-append (λ (x : DirEntry). x.0) (entries_of entries) ((e.name, e.is_dir) ∷ [])
