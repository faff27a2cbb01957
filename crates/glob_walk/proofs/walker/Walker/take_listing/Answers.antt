use Rattle.std.proofs.Common.{rules, ◌≡◌, ◌∷◌, ◌++◌, arith, Some, Ok, Err, refl, ap, sym, subst, ◌∙◌}
use Rattle.std.specs.Prelude.{IfErr, string_bytes, vec_len}
use Rattle.std.specs.IoError.{error_kind}
use Rattle.glob_tree.specs.Content.{list_result}
use Rattle.glob_tree.specs.Answers.{IsListError, entry_count}
use Rattle.glob_tree.proofs.ContentLemmas.Contents.{IsContent-from_test}
use Rattle.glob_tree.specs.declared.tree.ListError.TheVariants.{Read, Memory}
use Rattle.glob_walk.specs.Walks.{Give, Unread}
use Rattle.glob_walk.specs.Questions.{IsListedIn, ListAt}
use Rattle.glob_walk.specs.declared.query.QueryKind.TheVariants.{List}
use Rattle.glob_walk.specs.Private.Tasks.{next_ready}
use Rattle.glob_walk.specs.Private.Queries.{query_ready}
use Rattle.glob_walk.specs.Private.Stacks.{frames_marks}
use Rattle.glob_walk.specs.Private.Turns.{AreListedAt, TurnsTo, said, with_query}
use Rattle.glob_walk.proofs.WalkLemmas.Charging.{TurnsTo-fits, TurnsTo-memory, TurnsTo-said, uncharged}
use Rattle.glob_walk.proofs.WalkLemmas.Opening.{listed_fault}
use Rattle.glob_walk.proofs.WalkLemmas.Stacking.{left_free, left_none, sound_free, sound_none}
use Rattle.glob_walk.proofs.walker.Walker.take_listing.Goals as goal

pub returns-in-Ok-clause-turn : goal.returns-in-Ok-clause-turn
returns-in-Ok-clause-turn g c =
    let old = with_query c.args.path c.args.component (List c.args.recursive c.args.kinds) c.args.self.now in
    let asked = Some (ListAt c.args.kinds (string_bytes c.args.path)) in
    subst (λ r. TurnsTo (IsListedIn asked r) (entry_count r) old (said c.enter_listed.result) c.enter_listed.new.self) (sym c.in-Ok.is)
    (TurnsTo-fits (AreListedAt c.args.kinds (string_bytes c.args.path) c.in-Ok.entries.items) (IsListedIn asked
    (Ok c.in-Ok.entries)) (vec_len c.in-Ok.entries)
    old c.enter_listed.new.self (said c.enter_listed.result) (λ c' w. (w.0, w.1)) c.enter_listed.ensures)

pub returns-in-Err-Read-clause-failed : goal.returns-in-Err-Read-clause-failed
returns-in-Err-Read-clause-failed g c =
    let told : c.args.answer ≡ Err (Read c.in-Err-Read.e) = search rules in
    rw told (ap Some c.unread.ensures)

pub returns-in-Err-Memory-clause-failed : goal.returns-in-Err-Memory-clause-failed
returns-in-Err-Memory-clause-failed g c =
    let told : c.args.answer ≡ Err Memory = search rules in
    rw told (ap Some c.memory.ensures)

pub returns-in-Err-Read-clause-turn : goal.returns-in-Err-Read-clause-turn
returns-in-Err-Read-clause-turn g c =
    let s = c.args.self.now.stack in
    let told : c.args.answer ≡ Err (Read c.in-Err-Read.e) = search rules in
    let none : entry_count c.args.answer ≡ 0 = ap entry_count told in
    let free = ap query_ready c.requires.idle.0 in
    let ready = ap (next_ready s.plan) c.requires.idle.1 in
    TurnsTo-said _ _ _ _ _ _ c.unread.ensures (record {
      limit = refl;
      grows = omega arith;
      counts = omega (arith, none);
      plan = refl;
      asks = c.requires.idle.0;
      ready = omega (arith, free, ready);
      sound = λ c' w h. sound_free c' _ c.requires.idle.0 (sound_none c' s c.requires.idle.1 h.stack.frames);
      takes = λ c' w h.
          let fault = subst (λ r. IfErr r (IsListError (list_result c' (string_bytes c.args.path)))) told w.2 in
          uncharged _ _ _
          (ap (λ ms. ms ++ frames_marks c' s.plan s.frames.items)
          (listed_fault c' (IsContent-from_test c' w.0) s.plan c.args.recursive c.args.component
          (string_bytes c.args.path) c.requires.listed.opens h.query (error_kind c.in-Err-Read.e) fault)
          ∙ ap (λ ms. Give (Unread (string_bytes c.args.path) (error_kind c.in-Err-Read.e)) ∷ ms)
          (left_none c' s c.requires.idle.1 ∙ left_free c' s.plan _ _ c.requires.idle.0));
    })

pub returns-in-Err-Memory-clause-turn : goal.returns-in-Err-Memory-clause-turn
returns-in-Err-Memory-clause-turn g c =
    let told : c.args.answer ≡ Err Memory = search rules in
    TurnsTo-said _ _ _ _ _ _ c.memory.ensures (TurnsTo-memory _ _ _ _ refl (ap entry_count told) refl c.requires.idle.0)
