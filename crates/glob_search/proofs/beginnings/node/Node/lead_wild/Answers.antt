use Rattle.std.proofs.Common.{◌<◌, refl, sym, subst}
use Rattle.std.specs.List.{All}
use Rattle.std.proofs.lemmas.List.Elements.{All-push}
use Rattle.glob_search.proofs.BeginningLemmas.Leading.{wild-more}
use Rattle.glob_search.proofs.beginnings.node.Node.lead_wild.Goals as goal

pub returns-clause-within : goal.returns-clause-within
returns-clause-within g c n lt w =
    record {
      literals = w.literals;
      wilds = subst (All (λ w. w.node < n)) (sym c.in_ok-push.ensures.items)
          (All-push (λ w. w.node < n) c.args.self.now.wilds.items (record {
            pattern = c.args.pattern;
            node =
                c.args.node;
          }) w.wilds lt);
      deep = w.deep;
    }

pub returns-clause-leads : goal.returns-clause-leads
returns-clause-leads g c o front k h wild other is =
    wild-more o front k c.args.self.now _ h (record { pattern = c.args.pattern; node = c.args.node })
    c.in_ok-push.ensures.items refl refl refl refl wild other is
