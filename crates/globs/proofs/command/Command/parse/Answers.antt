use Rattle.std.proofs.Common.{◌≡◌, IfErr, IfOk, subst, sym}
use Rattle.globs.specs.Reading.{Request}
use Rattle.globs.specs.Requests.{IsWrongRequest, request_of}
use Rattle.globs.proofs.RequestLemmas.{asked_command}
use Rattle.globs.proofs.command.Command.parse.Goals as goal

pub returns-in_default-clause-asked : goal.returns-in_default-clause-asked
returns-in_default-clause-asked g c =
    subst (λ (r : Request). IfOk c.parse_named.result (λ command. r ≡ request_of command))
    (sym (asked_command _ c.args.words.now c.in-len1-up.len_at_least c.in_default.not-text c.in_default.not-text-2
    c.in_default.not-text-3 c.in_default.not-help))
    c.parse_named.ensures.asked

pub returns-in_default-clause-wrong : goal.returns-in_default-clause-wrong
returns-in_default-clause-wrong g c =
    subst (λ (r : Request). IfErr c.parse_named.result (IsWrongRequest r))
    (sym (asked_command _ c.args.words.now c.in-len1-up.len_at_least c.in_default.not-text c.in_default.not-text-2
    c.in_default.not-text-3 c.in_default.not-help))
    c.parse_named.ensures.wrong
