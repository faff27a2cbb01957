use Rattle.std.proofs.Common.{refl}
use Rattle.glob_tree.proofs.MemoryLemmas.Keys.{cut_at_slash, no_slash_from_chars}
use Rattle.glob_tree.proofs.path_text.cut_last.Goals as goal

pub returns-in-Some : goal.returns-in-Some
returns-in-Some c =
    let h = c.in-Some.ensures.cases in (
      cut_at_slash c.args.path.now c.in-Some.above.now c.in-Some.name.now h.0 h.1 h.3 h.4 h.2.1,
      no_slash_from_chars
          c.in-Some.name.now _ h.4 h.2.0,
    )

pub returns-in-None : goal.returns-in-None
returns-in-None c = no_slash_from_chars c.args.path.now c.args.path.now refl c.in-None.ensures.cases
