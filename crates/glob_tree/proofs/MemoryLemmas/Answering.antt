-- What a tree answers for a path, from what the path leads to.
use Rattle.std.proofs.Common.{◌≡◌, ℕ, true, false, List, [], Option, Some, None, refl, ap, sym, ◌∙◌}
use Rattle.std.specs.Prelude.{option_and_then, option_map}
use Rattle.std.specs.declared.io.ErrorKind.TheVariants.{NotFound}
use Rattle.std.proofs.lemmas.Bool.{both_ways}
use Rattle.glob_text.specs.Text.{Text}
use Rattle.glob_tree.specs.Content.{Content, Key, kind_at, is_dir, children, resolve, look_result, look_of, list_result}
use Rattle.glob_tree.specs.Content.{list_found, list_of, NoDirectory}
use Rattle.glob_tree.specs.Memory.{kind_fault, list_fault}
use Rattle.glob_tree.specs.Private.Nodes.{key_numbered, rooted_content, content_at}
use Rattle.glob_tree.specs.Private.Numbers.{Leads}
use Rattle.glob_tree.specs.declared.kind.Kind.{Kind}
use Rattle.glob_tree.specs.declared.kind.Kind.TheVariants.{Dir, Shut, Other}
use Rattle.glob_tree.specs.declared.tree.Look.TheVariants as look
use Rattle.glob_tree.proofs.MemoryLemmas.Memory.{kind_any}

-- the answers for a path that leads nowhere
pub record AnswersNothing (c : Content) (path : Text) : Type 0 where
  pub look : look_result c path ≡ look.Missing
  pub list : list_result c path ≡ NoDirectory
  pub fault : list_fault c path ≡ Some NotFound

pub AnswersNothing-from_resolve : (c : Content) (path : Text) → resolve c path ≡ None → AnswersNothing c path
unfolding look_result list_result list_fault resolve
AnswersNothing-from_resolve c path r = record {
  look = ap (λ k. look_of (option_and_then (kind_at c) k)) r;
  list = ap (list_found c) r;
  fault = ap (λ k. kind_fault (option_and_then (kind_at c) k)) r;
}

-- the answers for a path that leads to a key with this kind
pub record AnswersKind (c : Content) (path : Text) (k : Key) (kind : Kind) : Type 0 where
  pub look : look_result c path ≡ look_of (Some kind)
  pub list : list_result c path ≡ list_of c k (Some kind)
  pub fault : list_fault c path ≡ kind_fault (Some kind)

pub AnswersKind-from_resolve : (c : Content) (path : Text) (k : Key) (kind : Kind) → resolve c path ≡ Some k
    → kind_at c k ≡ Some kind → AnswersKind c path k kind
unfolding look_result list_result list_fault resolve
AnswersKind-from_resolve c path k kind r held = record {
  look = ap (λ o. look_of (option_and_then (kind_at c) o)) r ∙ ap look_of held;
  list = ap (list_found c) r ∙ ap (list_of c k) held;
  fault = ap (λ o. kind_fault (option_and_then (kind_at c) o)) r ∙ ap kind_fault held;
}

pub look_of-directory : (kind : Kind) → is_dir kind ≡ true → look_of (Some kind) ≡ look.Dir
look_of-directory Dir d = refl
look_of-directory (Shut kind) d = refl
look_of-directory Other d = absurd (both_ways false refl d)

pub look_of-other : (kind : Kind) → is_dir kind ≡ false → look_of (Some kind) ≡ look.Other
look_of-other Dir d = absurd (both_ways true d refl)
look_of-other (Shut kind) d = absurd (both_ways true d refl)
look_of-other Other d = refl

-- the current directory does not change what a directory lists
pub children_any : (entries : List (Key × Kind)) (m n k : Key)
    → children (record { kinds = entries; current = m }) k ≡ children (record { kinds = entries; current = n }) k
unfolding children
children_any entries m n k = refl

-- the answers by the numbers that the nodes return
module _ (entries : List (Key × Kind)) (current : ℕ) (path : Text) where
  pub nothing_there : (r : Option ℕ) → Leads entries r (resolve (content_at entries current) path) → r ≡ None
      → AnswersNothing (content_at entries current) path
  nothing_there r leads none = AnswersNothing-from_resolve (content_at entries current) path (sym leads.0 ∙ ap
      (option_map (key_numbered entries)) none)

  pub kind_there : (r : Option ℕ) (number : ℕ) (kind : Kind) → Leads entries r (resolve (content_at entries current) path) → r ≡ Some number
      → kind_at (rooted_content entries) (key_numbered entries number) ≡ Some kind → AnswersKind
      (content_at entries current) path (key_numbered entries number) kind
  kind_there r number kind leads some held = AnswersKind-from_resolve (content_at entries current) path (key_numbered entries number) kind
      (sym leads.0 ∙ ap (option_map (key_numbered entries)) some) (kind_any entries (key_numbered entries current) []
      (key_numbered entries number) ∙ held)
