-- Literal components, the end of the pattern, and non-directories.
use Rattle.std.proofs.Common.{◌≡◌, ℕ, ◌+◌, Bool, true, false, cond, not, ◌||◌, List, [], ◌∷◌, drop, ap, sym, ◌∙◌}
use Rattle.std.specs.Prelude.{option_map, unwrap_or}
use Rattle.glob_text.specs.Text.{Text}
use Rattle.glob_walk.specs.Walks.{Work, Give, Found, enter, look_up}
use Rattle.glob_tree.specs.Paths.{child}
use Rattle.glob_tree.specs.Content.{Content, is_dir, kind_found, look_result}
use Rattle.glob_walk.specs.Components.{is_literal, is_recursive, is_current_or_parent, Literal, Recursive, Wild}
use Rattle.glob_tree.specs.Looks.{is_there, is_directory}
use Rattle.glob_pattern.specs.declared.options.MatchOptions.{MatchOptions}
use Rattle.glob_tree.specs.declared.tree.Look.{Look}
use Rattle.glob_walk.proofs.ListingLemmas.Descending.{enter-literal, enter_none, enter-recursive_none}
use Rattle.glob_walk.proofs.ListingLemmas.Looking.{sees_something, sees_directory}
use Rattle.glob_walk.specs.declared.plan.Plan.{Plan}
use Rattle.glob_walk.specs.declared.task.Accepted.{Accepted}
use Rattle.glob_walk.specs.declared.task.TaskState.TheVariants.{Unseen}
use Rattle.glob_walk.specs.Private.Tasks.{enter_from, is_accepted, state_marks, IsOpened}
use Rattle.glob_walk.proofs.WalkLemmas.Entering.{enter-end}

pub literal_marks : {A : Type 0} (c : Content) (plan : Plan A) (component : ℕ) (path : Text) (d : Bool) (t : Text) (w : Accepted)
    → drop component plan.components.items ≡ t ∷ drop (component + 1) plan.components.items → is_literal t ≡ true
    → ((seen : Look) → is_accepted w seen ≡ cond (is_current_or_parent t) d (is_there seen))
    → enter_from c plan component path d
    ≡ look_up c (is_accepted w (look_result c (child path t))) (enter_from c plan (component + 1)) (child path t)
literal_marks c plan component path d t w at kind same =
    ap (λ ts. enter c plan.options plan.directories ts path d) at
    ∙ enter-literal c plan.options plan.directories t (drop (component + 1) plan.components.items) path d
    (ap (λ b. cond b Literal (cond (is_recursive t) Recursive Wild)) kind)
    ∙ ap (λ b. look_up c b (enter_from c plan (component + 1)) (child path t))
    (sym (same (look_result c (child path t)) ∙ ap (cond (is_current_or_parent t) d) (sees_something c (child path t))))

-- after an accepted look, the walk goes on at the path
pub looked_marks : {A : Type 0} (c : Content) (plan : Plan A) (component : ℕ) (path : Text) (w : Accepted) (d : Bool) (seen : Look)
    → seen ≡ look_result c path → is_accepted w seen ≡ true → d ≡ is_directory seen
    → state_marks c plan component path (Unseen w) ≡ Work path ∷ enter_from c plan component path d
looked_marks c plan component path w d seen is yes' directory =
    ap (λ b. Work path ∷ cond b (enter_from c plan component path (unwrap_or (option_map is_dir (kind_found c path)) false)) [])
    (ap (is_accepted w) (sym is) ∙ yes')
    ∙ ap (λ e. Work path ∷ enter_from c plan component path e)
    (sym (directory ∙ ap is_directory is ∙ sees_directory c path))

pub ended : {A : Type 0} (c : Content) (plan : Plan A) (component : ℕ) (path : Text) (d : Bool) → drop component plan.components.items ≡ []
    → enter_from c plan component path d ≡ cond (not plan.directories || d) (Give (Found path) ∷ []) []
ended c plan component path d at = ap (λ ts. enter c plan.options plan.directories ts path d) at
    ∙ enter-end c plan.options plan.directories path d

-- nothing follows at a non-directory
pub opened_none : (c : Content) (o : MatchOptions) (dirs : Bool) (recursive : Bool) (ts : List Text) (path : Text)
    → IsOpened recursive ts → enter c o dirs ts path false ≡ []
opened_none c o dirs recursive [] path h = absurd h
opened_none c o dirs false (t ∷ ts) path h = enter_none c o dirs t ts path h
opened_none c o dirs true (t ∷ ts) path h = enter-recursive_none c o dirs t ts path h.0 h.1
