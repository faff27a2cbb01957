use Rattle.std.proofs.Common.{◌≡◌, ap, subst, ◌∙◌}
use Rattle.glob_tree.specs.Answers.{entries_of, names_of}
use Rattle.glob_tree.specs.Content.{Entries, list_result}
use Rattle.glob_tree.specs.Private.Listing.{name_bytes}
use Rattle.glob_tree.proofs.SystemLemmas.Holding.{opened_held}
use Rattle.glob_tree.proofs.mem_system.MemSystemSystem.open.Goals as goal

pub returns-in_ok-bytes-in-Ok-clause-opened : goal.returns-in_ok-bytes-in-Ok-clause-opened
returns-in_ok-bytes-in-Ok-clause-opened g c = λ f held direct.
    opened_held c.args.self.now f held c.args.path.now (entries_of c.in-Ok.entries.items)
    (subst (λ x. list_result x c.args.path.now ≡ Entries (entries_of c.in-Ok.entries.items)) c.self.view_is c.in-Ok.ensures.entries)
    c.from-names.result.items
    (c.from-names.ensures.0 ∙ c.in_ok-bytes-in-Ok.ensures ∙ ap (λ es. name_bytes (names_of (entries_of es))) c.as_slice.ensures.value)
