-- A loop over the pieces of a path.
use Rattle.std.proofs.Common.{◌≡◌, ◌<◌, List, [], ◌∷◌, length, Option, Some, None, refl, sym, ap, subst, ◌∙◌, ℕ}
use Rattle.glob_text.specs.Text.{Text}
use Rattle.glob_text.specs.Pieces.{pieces}
use Rattle.glob_tree.specs.Content.{Content, Key, kind_at, step, steps, origin, resolve}
use Rattle.glob_tree.specs.Private.Nodes.{key_numbered, rooted_content, content_at}
use Rattle.glob_tree.specs.Private.Numbers.{Leads}
use Rattle.glob_tree.specs.declared.kind.Kind.{Kind}
use Rattle.glob_tree.proofs.ContentLemmas.Resolving.{steps_none, resolve_steps}

module _ (entries : List (Key × Kind)) (all : Option Key) where
  abbrev c : Content
  c = rooted_content entries

  -- the pieces lead on from the number that the first one leads to
  pub follows_some : (n m : ℕ) (piece : Text) (r : Option ℕ) (rest ys : List Text) → all ≡ steps c
      (Some (key_numbered entries n)) rest → rest ≡ piece ∷ ys
      → Leads entries r (step c piece (key_numbered entries n)) → r ≡ Some m → (m < length entries) × (all ≡ steps c
      (Some (key_numbered entries m)) ys)
  follows_some n m piece r rest ys on first leads is =
      let there = subst (λ o. Leads entries o (step c piece (key_numbered entries n))) is leads in
      (there.1, on ∙ ap (steps c (Some (key_numbered entries n))) first ∙ ap (λ o. steps c o ys) (sym there.0))

  -- they lead nowhere if the first piece does
  pub follows_none : (n : ℕ) (piece : Text) (r : Option ℕ) (rest ys : List Text) → all ≡ steps c
      (Some (key_numbered entries n)) rest → rest ≡ piece ∷ ys
      → Leads entries r (step c piece (key_numbered entries n)) → r ≡ None → all ≡ None
  follows_none n piece r rest ys on first leads is =
      let there = subst (λ o. Leads entries o (step c piece (key_numbered entries n))) is leads in
      on ∙ ap (steps c (Some (key_numbered entries n))) first ∙ ap (λ o. steps c o ys) (sym there.0) ∙ steps_none c ys

-- the current directory does not change where pieces lead from a key
pub steps_any : (entries : List (Key × Kind)) (m n : Key) (o : Option Key) (ps : List Text)
    → steps (record { kinds = entries; current = m }) o ps ≡ steps (record { kinds = entries; current = n }) o ps
unfolding kind_at
steps_any entries m n o ps = refl

-- where a nonempty path leads
pub resolve_from : (entries : List (Key × Kind)) (current start : ℕ) (path : Text) → 0 < length path
    → (key_numbered entries start) ≡ origin (content_at entries current) path
    → resolve (content_at entries current) path ≡ steps (rooted_content entries) (Some (key_numbered entries start)) (pieces path)
resolve_from entries current start path some from =
    resolve_steps (content_at entries current) path some
    ∙ ap (λ k. steps (content_at entries current) (Some k) (pieces path)) (sym from)
    ∙ steps_any entries (key_numbered entries current) [] (Some (key_numbered entries start)) (pieces path)
