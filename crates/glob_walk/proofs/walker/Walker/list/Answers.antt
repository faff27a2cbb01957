use Rattle.std.proofs.Common.{rules, subst, sym, true, ◌∷◌, [], ◌++◌, refl, ap, arith, ◌∙◌}
use Rattle.std.specs.Prelude.{drop, string_bytes}
use Rattle.glob_tree.proofs.ContentLemmas.Contents.{IsContent-from_test}
use Rattle.glob_walk.specs.Walks.{Work}
use Rattle.glob_walk.specs.Private.Turns.{TurnsTo}
use Rattle.glob_walk.specs.Private.Tasks.{enter_from, next_ready}
use Rattle.glob_walk.specs.Private.Stacks.{frames_marks}
use Rattle.glob_walk.proofs.WalkLemmas.Charging.{TurnsTo-said}
use Rattle.glob_walk.proofs.WalkLemmas.Opening.{opened_unit}
use Rattle.glob_walk.proofs.WalkLemmas.Stacking.{left_none, sound_none}
use Rattle.glob_walk.proofs.walker.Walker.list.Goals as goal

pub returns-then-not-charge : goal.returns-then-not-charge
returns-then-not-charge g c = TurnsTo-said _ _ _ _ _ _ c.limit.ensures (record {
  limit = c.charge.ensures.limit;
  grows = search rules;
  counts = search rules;
  plan = refl;
  asks = c.requires.idle.0;
  ready = tt;
  sound = tt;
  takes = λ c' w h. record {
    rest = _;
    charges = record {
      paths = [];
      front = ap (λ ms. ms ++ frames_marks c' c.args.self.now.stack.plan c.args.self.now.stack.frames.items)
          (opened_unit c' (IsContent-from_test c' w) c.args.self.now.stack.plan c.args.recursive c.args.component
          (string_bytes c.args.path) c.requires.opens (h.stack.next refl));
      units = search rules;
    };
  };
})

pub returns : goal.returns
returns g c =
    let s = c.args.self.now.stack in
    let none = ap (next_ready s.plan) c.requires.idle.1 in
    subst (TurnsTo _ _ _ _) (sym c.ask.ensures.asks) (TurnsTo-said _ _ _ _ _ _ c.ask.ensures.says (record {
      limit = c.charge.ensures.limit;
      grows = search rules;
      counts = search rules;
      plan = refl;
      asks = (refl, (c.requires.idle.1, record { within = search rules; opens = c.requires.opens; names = c.needs_kinds-kinds.ensures }));
      ready = omega (arith, none, c.charge.ensures.charged c.if-not-charge.false);
      sound = λ c' w h. record {
        query = h.stack.next refl;
        deep = λ plain. let task = h.stack.deep plain in record { plain = task.plain; deep = task.deep };
        stack = sound_none c' s c.requires.idle.1 h.stack.frames;
      };
      takes = λ c' w h. record {
        before = c.args.self.now.meter.spent;
        charges = record {
          paths = [];
          front = ap (λ ms. ms ++ frames_marks c' s.plan s.frames.items)
              (opened_unit c' (IsContent-from_test c' w) s.plan c.args.recursive c.args.component
              (string_bytes c.args.path) c.requires.opens (h.stack.next refl))
              ∙ ap (λ ms. Work (string_bytes c.args.path) ∷ (drop 1 (enter_from c' s.plan c.args.component
              (string_bytes c.args.path) true) ++ ms)) (left_none c' s c.requires.idle.1);
          units = search rules;
        };
        unit = search rules;
      };
    }))
