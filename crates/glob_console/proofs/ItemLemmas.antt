-- What more items add to the paths of a walk, and to the records of the wanted ones.
use Rattle.std.proofs.Common.{◌≡◌, ℕ, true, false, List, [], ◌∷◌, ◌++◌, Bool, refl, ap, sym, ◌∙◌, append-nil}
use Rattle.std.specs.declared.io.ErrorKind.{ErrorKind}
use Rattle.std.specs.List.{filter}
use Rattle.std.proofs.lemmas.List.Concat.{flat_map-append}
use Rattle.std.proofs.lemmas.List.Elements.{filter-append}
use Rattle.glob_text.specs.Text.{Text}
use Rattle.glob_lines.specs.Lines.{ended_record, with_ends}
use Rattle.glob_walk.specs.Walks.{Item, Found, Unread, paths}
use Rattle.glob_console.specs.FoundPaths.{has_any, has_unread, wanted_paths}

pub paths-append : (is js : List Item) → paths (is ++ js) ≡ paths is ++ paths js
paths-append [] js = refl
paths-append (Found p ∷ is) js = ap (λ ps. p ∷ ps) (paths-append is js)
paths-append (Unread p k ∷ is) js = paths-append is js

pub has_any-push : (ps : List Text) (p : Text) → has_any (ps ++ p ∷ []) ≡ true
has_any-push [] p = refl
has_any-push (q ∷ ps) p = refl

pub has_unread-found : (is : List Item) (p : Text) → has_unread (is ++ Found p ∷ []) ≡ has_unread is
has_unread-found [] p = refl
has_unread-found (Found q ∷ is) p = has_unread-found is p
has_unread-found (Unread q k ∷ is) p = refl

pub has_unread-push : (is : List Item) (p : Text) (k : ErrorKind) → has_unread (is ++ Unread p k ∷ []) ≡ true
has_unread-push [] p k = refl
has_unread-push (Found q ∷ is) p k = has_unread-push is p k
has_unread-push (Unread q l ∷ is) p k = refl

-- the wanted paths of some items and of the items after them
pub wanted-append : (wanted : Text → Bool) (is js : List Item) → wanted_paths wanted (is ++ js) ≡ wanted_paths wanted
    is ++ wanted_paths wanted js
wanted-append wanted is js = ap (filter wanted) (paths-append is js) ∙ filter-append wanted (paths is) (paths js)

-- the records of these paths are a prefix of the records of all
pub records_begin : (end : ℕ) (wanted : Text → Bool) (texts : List Text) (given more all : List Item)
    → texts ≡ wanted_paths wanted given → all ≡ given ++ more
    → with_ends end (wanted_paths wanted all) ≡ with_ends end texts ++ with_ends end (wanted_paths wanted more)
records_begin end wanted texts given more all kept split =
    ap (λ is. with_ends end (wanted_paths wanted is)) split
    ∙ ap (with_ends end) (wanted-append wanted given more ∙ ap (λ ts. ts ++ wanted_paths wanted more) (sym kept))
    ∙ flat_map-append (ended_record end) texts (wanted_paths wanted more)

-- the records of some paths and one more
pub records_push : (end : ℕ) (texts : List Text) (text : Text) → with_ends end (texts ++ text ∷ []) ≡ with_ends end
    texts ++ ended_record end text
records_push end texts text = flat_map-append (ended_record end) texts (text ∷ []) ∙ ap (λ l. with_ends end texts ++ l)
    (append-nil (ended_record end text))

pub wanted_one : (wanted : Text → Bool) (text : Text) → true ≡ wanted text → text ∷ [] ≡ wanted_paths wanted (Found text ∷ [])
wanted_one wanted text sure = rw (sym sure) refl

pub unwanted_one : (wanted : Text → Bool) (text : Text) → false ≡ wanted text → [] ≡ wanted_paths wanted (Found text ∷ [])
unwanted_one wanted text never = rw (sym never) refl

-- one more item
pub wanted_push : (wanted : Text → Bool) (texts more : List Text) (given : List Item) (item : Item)
    → texts ≡ wanted_paths wanted given → more ≡ wanted_paths wanted (item ∷ [])
    → texts ++ more ≡ wanted_paths wanted (given ++ item ∷ [])
wanted_push wanted texts more given item kept last = ap (λ ts. ts ++ more) kept ∙ ap (λ ts. wanted_paths wanted given
    ++ ts) last ∙ sym (wanted-append wanted given (item ∷ []))
