use Rattle.std.proofs.Common.{◌≡◌, ◌∙◌, Some, ap, string_bytes}
use Rattle.glob_rules.specs.Lists.{rules_of}
use Rattle.globs.proofs.AboveLemmas.{file-more, read-more, unled}
use Rattle.globs.proofs.above.Above.read.Goals as goal

pub returns-clause-lists : goal.returns-clause-lists
returns-clause-lists g c known is =
    let text = string_bytes c.in-Ok-Some.text in
    let read : Some text ≡ known (string_bytes c.args.path) =
    (rw c.in-Ok-Some.field-0-is at (c.in-Ok-Some.ensures.text known is)) ∙ ap known c.as_str.ensures.value in
    read-more c.args.self.now.lists.items c.push.new.self.items c.at_start.result known (string_bytes c.args.path) text
    c.in_ok-push.ensures.items c.at_start.ensures.prefix
    (c.at_start.ensures.list ∙ c.in_ok-list.ensures.rules ∙ ap rules_of c.as_str-2.ensures.value)
    read

pub returns-clause-files : goal.returns-clause-files
returns-clause-files g c known is bare =
    let text = string_bytes c.in-Ok-Some.text in
    let read : Some text ≡ known (string_bytes c.args.path) =
    (rw c.in-Ok-Some.field-0-is at (c.in-Ok-Some.ensures.text known is)) ∙ ap known c.as_str.ensures.value in
    file-more c.args.self.now.files.items c.push-2.new.self.items c.with_lead-path-2.result known (string_bytes c.args.path) text
    c.in_ok-push-2.ensures.items (unled c.args.lead.now (string_bytes c.args.path) _ bare c.with_lead-path-2.ensures) read
