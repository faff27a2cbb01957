use Rattle.std.proofs.Common.{sym, ◌∙◌}
use Rattle.globs.proofs.CopyLemmas.{selected_here, selected_by_list, selected_no_text}
use Rattle.globs.proofs.ignore.unignored.UnignoredSelection.selects.Goals as goal

pub returns-in-Some : goal.returns-in-Some
returns-in-Some g c =
    selected_here c.args.bytes.now c.args.self.now.list.now c.in-Some.path.now c.in-Some.ensures (sym c.if-is_here.true ∙ c.is_here.ensures)

pub returns-in_ok-is_ignored-in-Some-2 : goal.returns-in_ok-is_ignored-in-Some-2
returns-in_ok-is_ignored-in-Some-2 g c =
    selected_by_list c.args.bytes.now c.args.self.now.list.now c.in-Some.path.now _ c.is_directory.result c.in-Some.ensures
    (sym c.if-is_here.false ∙ c.is_here.ensures) c.is_directory.ensures c.in_ok-is_ignored-in-Some-2.ensures.answer

pub returns-in-None : goal.returns-in-None
returns-in-None g c = selected_no_text c.args.bytes.now c.args.self.now.list.now c.in-None.ensures
