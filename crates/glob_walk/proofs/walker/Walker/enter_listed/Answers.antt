use Rattle.std.proofs.Common.{cond, true, refl, ◌≡◌, ℕ, ◌+◌, ◌<◌, List, ◌++◌, length, drop, ap, sym, ◌∙◌, arith, subst}
use Rattle.std.specs.Prelude.{string_bytes, vec_len}
use Rattle.glob_tree.specs.Answers.{entries_of}
use Rattle.glob_tree.specs.declared.tree.Entry.{Entry}
use Rattle.glob_tree.proofs.ContentLemmas.Contents.{IsContent-from_test}
use Rattle.glob_walk.specs.Private.Turns.{StopsAt}
use Rattle.glob_walk.specs.Private.Tasks.{enter_from, next_ready}
use Rattle.glob_walk.specs.Private.Queries.{query_marks, query_ready}
use Rattle.glob_walk.specs.Private.Frames.{frame_marks, cursor_marks}
use Rattle.glob_walk.specs.Private.Stacks.{left, frames_marks}
use Rattle.std.proofs.lemmas.List.{length-map}
use Rattle.glob_walk.specs.declared.frame.Cursor.TheVariants.{At, Parent}
use Rattle.glob_walk.specs.Private.Depths.{is_special}
use Rattle.glob_walk.proofs.WalkLemmas.Depths.{entry_deep, first_named, named}
use Rattle.glob_walk.proofs.WalkLemmas.Kinds.{opened_answer}
use Rattle.glob_walk.proofs.WalkLemmas.Listings.{held, is_cut}
use Rattle.glob_walk.proofs.WalkLemmas.Opening.{held_sound, opened_charges, opened_cut, first_unmet}
use Rattle.glob_walk.proofs.WalkLemmas.Stacking.{left_free, left_none, sound_free, sound_none}
use Rattle.glob_walk.proofs.WalkLemmas.Charging.{TurnsTo-said}
use Rattle.glob_walk.proofs.walker.Walker.enter_listed.Goals.{then-is_dotted, else-is_dotted}
use Rattle.glob_walk.proofs.walker.Walker.enter_listed.Goals as goal

counted : (spent' spent n : ℕ) → spent' ≡ spent + n → spent' ≡ spent + n + 0
counted spent' spent n e = omega arith

entries_counted : {A : Type 0} (es : List (Entry A)) (spent' spent n m : ℕ) → spent' ≡ spent + n → m ≡ n
    → length es ≡ m → spent' ≡ spent + length (entries_of es)
entries_counted es spent' spent n m e same long = simp length-map (omega arith)

pub returns-then-not-charge_entries : goal.returns-then-not-charge_entries
returns-then-not-charge_entries g c =
    let at : c.charge_entries.new.self.spent ≡ c.args.self.now.meter.limit =
    (c.charge_entries.ensures.refused c.if-not-charge_entries.true).0 in
    let few : c.args.self.now.meter.limit < c.args.self.now.meter.spent + length c.args.entries.items =
    omega (arith, (c.charge_entries.ensures.refused c.if-not-charge_entries.true).1, c.len.ensures, c.args.entries.ok.0) in
    TurnsTo-said _ _ _ _ _ _ c.limit.ensures (record {
      limit = c.charge_entries.ensures.limit;
      grows = omega (arith, at, c.args.self.now.meter.within);
      counts = (at ∙ sym c.charge_entries.ensures.limit, omega (arith, few, c.charge_entries.ensures.limit, c.args.entries.ok.0));
      plan = refl;
      asks = c.requires.idle.0;
      ready = tt;
      sound = tt;
      takes = λ c' w h.
          subst (λ n. StopsAt (drop 1 (enter_from c' c.args.self.now.stack.plan c.args.component
          (string_bytes c.args.path) true) ++ frames_marks c' c.args.self.now.stack.plan
          c.args.self.now.stack.frames.items) c.args.self.now.meter.spent (string_bytes c.args.path) n) (sym at)
          (opened_cut c' (IsContent-from_test c' w.0) c.args.self.now.stack.plan c.args.recursive c.args.component
          (string_bytes c.args.path) c.requires.listed.opens h.query
          (frames_marks c' c.args.self.now.stack.plan c.args.self.now.stack.frames.items) c.args.self.now.meter.spent
          c.args.self.now.meter.limit c.args.self.now.meter.within
          (is_cut c' (string_bytes c.args.path) c.args.kinds c.args.entries.items c.args.self.now.meter.spent
          c.args.self.now.meter.limit w.1 few));
    })

pub returns-in-Ok : goal.returns-in-Ok
returns-in-Ok g c =
    let cursor : c.if-is_dotted.cursor ≡ cond c.is_dotted.result Parent (At 0) = elim c.if-is_dotted.branch [
      | then-is_dotted w ↦ w.cursor-is ∙ sym (ap (λ b. cond b Parent (At 0)) w.if-is_dotted.true)
      | else-is_dotted w
          ↦ w.cursor-is ∙ sym (ap (λ b. cond b Parent (At 0)) w.if-is_dotted.false)
    ] in
    let charged : c.charge_entries.new.self.spent ≡ c.args.self.now.meter.spent + vec_len c.args.entries =
    c.charge_entries.ensures.charged c.if-not-charge_entries.false ∙ ap (λ n. c.args.self.now.meter.spent + n) c.len.ensures in
    record {
      limit = c.charge_entries.ensures.limit;
      grows = omega (arith, charged);
      counts = charged;
      plan = c.open.ensures.plan;
      asks = c.requires.idle.0;
      ready =
          let few = first_unmet (length c.sort_entries.new.entries.items) c.is_dotted.result c.if-is_dotted.cursor cursor in
          omega (
            arith,
            c.in-Ok.ensures.ready,
            few,
            ap query_ready c.requires.idle.0,
            ap (next_ready c.args.self.now.stack.plan) c.requires.idle.1,
            c.sort_entries.ensures.len,
            c.sort_entries.new.entries.ok.0,
            charged,
          );
      sound = λ c' w h. sound_free c' _ c.requires.idle.0 (c.in-Ok.ensures.sound c' (record {
        entries = record {
          entries = λ e in'. held_sound c' (IsContent-from_test c' w.0) c.args.self.now.stack.plan c.args.recursive
              c.args.component (string_bytes c.args.path) c.requires.listed.opens h.query e
              (held c' (string_bytes c.args.path) c.args.kinds c.args.entries.items c.sort_entries.new.entries.items w.1
              c.sort_entries.ensures.permutation e in');
        };
        deep = λ over. let asked = h.deep over in record {
          at = record { opens = c.requires.listed.opens; plain = asked.plain };
          entries = λ e in'. entry_deep c' (IsContent-from_test c' w.0) _ (string_bytes c.args.path) e.0 h.query
              (named c' (string_bytes c.args.path) c.args.kinds c.args.entries.items c.sort_entries.new.entries.items w.1
              c.sort_entries.ensures.permutation e in') asked.deep;
          named = ap is_special (cursor ∙ ap (λ b. cond b Parent (At 0)) c.is_dotted.ensures)
              ∙ first_named c.args.recursive (drop c.args.component c.args.self.now.stack.plan.components.items)
              c.requires.listed.opens asked.plain;
        };
      }) (sound_none c' c.args.self.now.stack c.requires.idle.1 h.stack.frames));
      takes = λ c' w h.
          let rest = frames_marks c' c.args.self.now.stack.plan c.args.self.now.stack.frames.items in
          opened_charges c' (IsContent-from_test c' w.0) c.args.self.now.stack.plan c.args.recursive c.args.component
          (string_bytes c.args.path) c.requires.listed.opens h.query
          (entries_of c.sort_entries.new.entries.items)
          (opened_answer c' (IsContent-from_test c' w.0) c.args.self.now.stack.plan c.args.component
          (string_bytes c.args.path) h.query c.args.entries.items c.sort_entries.new.entries.items
          c.sort_entries.ensures.permutation c.sort_entries.ensures.sorted c.args.recursive c.args.kinds
          c.requires.listed w.1)
          c.if-is_dotted.cursor rest (query_marks c' c.open.new.self.plan c.args.self.now.query ++ left c'
          c.open.new.self) c.args.self.now.meter.spent c.charge_entries.new.self.spent
          (cursor ∙ ap (λ b. cond b Parent (At 0)) c.is_dotted.ensures)
          (sym (left_free c' c.open.new.self.plan c.args.self.now.query (left c' c.open.new.self) c.requires.idle.0)
          ∙ c.in-Ok.ensures.left c' ∙ ap (λ ms. frame_marks c' c.args.self.now.stack.plan
          (record {
            path = c.args.path;
            component = c.args.component;
            recursive = c.args.recursive;
            entries =
                c.sort_entries.new.entries;
            cursor = c.if-is_dotted.cursor;
          }) ++ ms)
          (sym (left_none c' c.args.self.now.stack c.requires.idle.1)))
          (entries_counted c.sort_entries.new.entries.items _ _ _ _ charged c.sort_entries.ensures.len
          (omega (arith, c.sort_entries.new.entries.ok.0)));
    }

pub returns-in-Err : goal.returns-in-Err
returns-in-Err g c =
    let cursor : c.if-is_dotted.cursor ≡ cond c.is_dotted.result Parent (At 0) = elim c.if-is_dotted.branch [
      | then-is_dotted w ↦ w.cursor-is ∙ sym (ap (λ b. cond b Parent (At 0)) w.if-is_dotted.true)
      | else-is_dotted w
          ↦ w.cursor-is ∙ sym (ap (λ b. cond b Parent (At 0)) w.if-is_dotted.false)
    ] in
    let charged : c.charge_entries.new.self.spent ≡ c.args.self.now.meter.spent + vec_len c.args.entries =
    c.charge_entries.ensures.charged c.if-not-charge_entries.false ∙ ap (λ n. c.args.self.now.meter.spent + n) c.len.ensures in
    TurnsTo-said _ _ _ _ _ _ c.memory.ensures (record {
      limit = c.charge_entries.ensures.limit;
      grows = omega (arith, charged);
      counts = counted _ _ _ charged;
      plan = c.open.ensures.plan;
      asks = c.requires.idle.0;
      ready = tt;
      sound = tt;
      takes = λ c' w h.
          let plan = c.args.self.now.stack.plan in
          let rest = frames_marks c' plan c.args.self.now.stack.frames.items in
          record {
            rest = cursor_marks c' plan c.args.recursive c.args.component (string_bytes c.args.path)
                (entries_of c.sort_entries.new.entries.items) c.if-is_dotted.cursor ++ rest;
            charges = opened_charges c' (IsContent-from_test c' w.0) plan c.args.recursive c.args.component
                (string_bytes c.args.path) c.requires.listed.opens h.query
                (entries_of c.sort_entries.new.entries.items)
                (opened_answer c' (IsContent-from_test c' w.0) c.args.self.now.stack.plan c.args.component
                (string_bytes c.args.path) h.query c.args.entries.items c.sort_entries.new.entries.items
                c.sort_entries.ensures.permutation c.sort_entries.ensures.sorted c.args.recursive c.args.kinds
                c.requires.listed w.1)
                c.if-is_dotted.cursor rest _ c.args.self.now.meter.spent c.charge_entries.new.self.spent
                (cursor ∙ ap (λ b. cond b Parent (At 0)) c.is_dotted.ensures)
                refl
                (entries_counted c.sort_entries.new.entries.items _ _ _ _ charged c.sort_entries.ensures.len
                (omega (arith, c.sort_entries.new.entries.ok.0)));
          };
    })
