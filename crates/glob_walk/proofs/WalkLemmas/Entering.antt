-- What follows at an entry that is met.
use Rattle.std.proofs.Common.{◌≡◌, ℕ, ◌+◌, Bool, true, false, cond, not, ◌||◌, List, [], ◌∷◌, drop, length, get_or}
use Rattle.std.proofs.Common.{Some, None, refl, ap, sym, subst, ◌∙◌, arith, ◌<◌}
use Rattle.std.specs.Prelude.{⊤}
use Rattle.std.proofs.lemmas.List.{drop_more}
use Rattle.std.proofs.lemmas.Bool.{cond-true, or_right}
use Rattle.glob_text.specs.Text.{Text}
use Rattle.glob_tree.specs.Paths.{child}
use Rattle.glob_walk.specs.Walks.{Give, Found, enter, meet, match_at, is_entered}
use Rattle.glob_tree.specs.Content.{Content}
use Rattle.glob_pattern.specs.declared.options.MatchOptions.{MatchOptions}
use Rattle.glob_walk.specs.declared.plan.Plan.{Plan}
use Rattle.glob_walk.specs.Private.Forms.{takes_name}
use Rattle.glob_walk.specs.Private.Tasks.{enter_from}
use Rattle.glob_walk.specs.Private.Frames.{first_of, first_part, met_marks}
use Rattle.glob_walk.proofs.ListingLemmas.Descending.{is_entered-directory}

module _ (c : Content) (o : MatchOptions) (dirs : Bool) where
  pub enter-end : (path : Text) (d : Bool) → enter c o dirs [] path d ≡ cond (not dirs || d) (Give (Found path) ∷ []) []
  unfolding enter
  enter-end path d = refl

  pub meet-end : (path name : Text) (d : Bool) → meet c o dirs [] path name d ≡ cond (is_entered o name d) (Give (Found path) ∷ []) []
  unfolding meet
  meet-end path name d = refl

  pub meet-next : (t : Text) (ts : List Text) (path name : Text) (d : Bool) → meet c o dirs (t ∷ ts) path name d ≡
      match_at o (enter c o dirs ts) t path name d
  unfolding meet
  meet-next t ts path name d = refl

matched : {A : Type 0} (c : Content) (plan : Plan A) (t : Text) (next : ℕ) (path name : Text) (d : Bool) (b : Bool)
    → cond b (enter_from c plan next (child path name) d) [] ≡ met_marks c plan path (name, d) (cond b (Some next) None)
matched c plan t next path name d true = refl
matched c plan t next path name d false = refl

-- the component decides
first_match : {A : Type 0} (c : Content) (plan : Plan A) (component : ℕ) (path name : Text) (d : Bool) (t : Text)
    → drop component plan.components.items ≡ t ∷ drop (component + 1) plan.components.items
    → first_part c plan false component path (name, d) ≡ met_marks c plan path (name, d)
    (cond (takes_name plan.options t name) (Some (component + 1)) None)
first_match c plan component path name d t e =
    ap (λ ts. first_of c plan.options plan.directories false ts path (name, d)) e ∙ matched c plan t (component + 1)
    path name d (takes_name plan.options t name)

-- the component after the `**` decides
first_in_run : {A : Type 0} (c : Content) (plan : Plan A) (component : ℕ) (path name : Text) (d : Bool) (r t : Text)
    → drop component plan.components.items ≡ r ∷ drop (component + 1) plan.components.items
    → drop (component + 1) plan.components.items ≡ t ∷ drop (component + 1 + 1) plan.components.items
    → first_part c plan true component path (name, d) ≡ met_marks c plan path (name, d)
    (cond (takes_name plan.options t name) (Some (component + 2)) None)
first_in_run c plan component path name d r t e f =
    let two : component + 1 + 1 ≡ component + 2 = omega arith in
    ap (λ ts. first_of c plan.options plan.directories true ts path (name, d)) e
    ∙ ap (λ ts. first_of c plan.options plan.directories true (r ∷ ts) path (name, d)) f
    ∙ matched c plan t (component + 1 + 1) path name d (takes_name plan.options t name)
    ∙ ap (λ n. met_marks c plan path (name, d) (cond (takes_name plan.options t name) (Some n) None)) two

-- the `**` is the last component
first_at_end : {A : Type 0} (c : Content) (plan : Plan A) (component : ℕ) (path name : Text) (d : Bool) (r : Text)
    → drop component plan.components.items ≡ r ∷ drop (component + 1) plan.components.items
    → drop (component + 1) plan.components.items ≡ []
    → first_part c plan true component path (name, d) ≡ met_marks c plan path (name, d)
    (cond (is_entered plan.options name d) (Some (component + 1)) None)
first_at_end c plan component path name d r e f =
    ap (λ ts. first_of c plan.options plan.directories true ts path (name, d)) e
    ∙ ap (λ ts. first_of c plan.options plan.directories true (r ∷ ts) path (name, d)) f
    ∙ meet-end c plan.options plan.directories (child path name) name d
    ∙ by_test (is_entered plan.options name d) refl
  where
    by_test : (b : Bool) → is_entered plan.options name d ≡ b
        → cond b (Give (Found (child path name)) ∷ []) [] ≡ met_marks c plan path (name, d) (cond b (Some (component + 1)) None)
    by_test true h = sym (ap (λ ts. enter c plan.options plan.directories ts (child path name) d) f
        ∙ enter-end c plan.options plan.directories (child path name) d
        ∙ cond-true (not plan.directories || d) (Give (Found (child path name)) ∷ []) []
        (or_right (not plan.directories) d (is_entered-directory plan.options name d h)))
    by_test false h = refl

-- an entry is met by the component, or under `**` by the next one, if there is one
module _ {A : Type 0} (c : Content) (plan : Plan A) (component : ℕ) (path name : Text) (d : Bool)
    (here : component < length plan.components.items) where
  at_part : drop component plan.components.items ≡ get_or plan.components.items component [] ∷ drop (component + 1) plan.components.items
  at_part = drop_more plan.components.items component [] here

  pub met_some : (recursive : Bool) (next : ℕ) (t : Text) → next ≡ cond recursive (component + 1) component
      → drop next plan.components.items ≡ t ∷ drop (next + 1) plan.components.items
      → first_part c plan recursive component path (name, d) ≡ met_marks c plan path (name, d)
      (cond (takes_name plan.options t name) (Some (next + 1)) None)
  met_some true next t is at =
      let two : component + 2 ≡ next + 1 = omega (arith, is) in
      first_in_run c plan component path name d (get_or plan.components.items component []) t at_part
      (subst (λ n. drop n plan.components.items ≡ t ∷ drop (n + 1) plan.components.items) is at)
      ∙ ap (λ n. met_marks c plan path (name, d) (cond (takes_name plan.options t name) (Some n) None)) two
  met_some false next t is at =
      first_match c plan component path name d t (subst (λ n. drop n plan.components.items ≡ t ∷ drop (n + 1) plan.components.items) is at)
      ∙ ap (λ n. met_marks c plan path (name, d) (cond (takes_name plan.options t name) (Some (n + 1)) None)) (sym is)

  pub met_none : (recursive : Bool) (next : ℕ) → next ≡ cond recursive (component + 1) component → drop next plan.components.items ≡ []
      → first_part c plan recursive component path (name, d) ≡ met_marks c plan path (name, d)
      (cond (is_entered plan.options name d) (Some next) None)
  met_none true next is at =
      first_at_end c plan component path name d (get_or plan.components.items component []) at_part
      (subst (λ n. drop n plan.components.items ≡ []) is at)
      ∙ ap (λ n. met_marks c plan path (name, d) (cond (is_entered plan.options name d) (Some n) None)) (sym is)
  met_none false next is at = absurd (subst is_held (sym at_part ∙ subst (λ n. drop n plan.components.items ≡ []) is at) tt)
    where
      is_held : List Text → Type 0
      is_held [] = ⊥
      is_held (t ∷ ts) = ⊤
