use Rattle.std.proofs.Common.{rules, subst, sym, ◌∷◌, ◌++◌, [], refl, ap, arith}
use Rattle.std.specs.Prelude.{string_bytes}
use Rattle.glob_walk.specs.Walks.{Work}
use Rattle.glob_walk.specs.Private.Turns.{TurnsTo}
use Rattle.glob_walk.specs.Private.Tasks.{next_ready}
use Rattle.glob_walk.specs.Private.Queries.{kind_marks}
use Rattle.glob_walk.specs.declared.query.QueryKind.TheVariants.{Look}
use Rattle.glob_walk.proofs.WalkLemmas.Charging.{TurnsTo-said}
use Rattle.glob_walk.proofs.WalkLemmas.Stacking.{left_none, sound_none}
use Rattle.glob_walk.proofs.walker.Walker.look.Goals as goal

pub returns-then-not-charge : goal.returns-then-not-charge
returns-then-not-charge g c = TurnsTo-said _ _ _ _ _ _ c.limit.ensures (record {
  limit = c.charge.ensures.limit;
  grows = search rules;
  counts = search rules;
  plan = refl;
  asks = c.requires.idle.0;
  ready = tt;
  sound = tt;
  takes = λ c' w h. record { rest = _; charges = record { paths = []; front = refl; units = search rules } };
})

pub returns : goal.returns
returns g c =
    let s = c.args.self.now.stack in
    let none = ap (next_ready s.plan) c.requires.idle.1 in
    subst (TurnsTo _ _ _ _) (sym c.ask.ensures.asks) (TurnsTo-said _ _ _ _ _ _ c.ask.ensures.says (record {
      limit = c.charge.ensures.limit;
      grows = search rules;
      counts = search rules;
      plan = refl;
      asks = (tt, (c.requires.idle.1, tt));
      ready = omega (arith, none, c.charge.ensures.charged c.if-not-charge.false);
      sound = λ c' w h. record {
        query = tt;
        deep = λ plain. let task = h.stack.deep plain in record { plain = task.plain; deep = task.deep };
        stack = sound_none c' s c.requires.idle.1 h.stack.frames;
      };
      takes = λ c' w h. record {
        before = c.args.self.now.meter.spent;
        charges = record {
          paths = [];
          front = ap (λ ms. Work (string_bytes c.args.path) ∷ (kind_marks c' s.plan c.args.component
              (string_bytes c.args.path) (Look c.args.accepted) ++ ms))
              (left_none c' s c.requires.idle.1);
          units = search rules;
        };
        unit = search rules;
      };
    }))
