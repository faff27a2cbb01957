use Rattle.std.proofs.Common.{Some, None, ◌∙◌}
use Rattle.glob_search.proofs.AskingLemmas.{left-all}
use Rattle.glob_search.proofs.directories.Directories.descend.Goals as goal

pub returns-in-Ok-clause-keeps : goal.returns-in-Ok-clause-keeps
returns-in-Ok-clause-keeps g c = λ a known same proper read.
    let h = c.in-Ok.ensures.descends a known same proper read in
    record {
      last = Some h.directory;
      at = h.at;
    }

pub returns-in-Err-clause-keeps : goal.returns-in-Err-clause-keeps
returns-in-Err-clause-keeps g c = λ a known same proper read.
    let t = record c.enter_above.new.self { held = c.leave.new.self; entered = c.clear.new.self } in
    record {
      last = None;
      at = left-all a known c.args.self.now t read.last read.at c.clear.ensures.items c.in-Err.ensures.files
          (c.leave.ensures.first ∙ c.in-Err.ensures.first)
          (c.leave.ensures.last ∙ c.in-Err.ensures.outer) c.leave.ensures.files c.leave.ensures.sources;
    }
