use Rattle.std.proofs.Common.{sym, ◌∙◌}
use Rattle.glob_run.proofs.RequestLemmas.{paths_request-option, paths_request-limit, paths_request-no_limit, paths_request-none}
use Rattle.glob_run.proofs.command.Command.parse_find.Goals as goal

pub loop-rest-preserved-then-eq : goal.loop-rest-preserved-then-eq
loop-rest-preserved-then-eq c =
    sym (paths_request-limit _ _ _ _ _ _ c.in-len1-up.len_at_least c.in-len1-up-after.len_at_least (sym c.eq.ensures
    ∙ c.if-eq.true) (sym c.parse_limit.ensures ∙ c.in_ok-limit.was))
    ∙ c.loop-rest.invariant

pub loop-rest-preserved : goal.loop-rest-preserved
loop-rest-preserved c =
    rw (c.set_match_option.ensures.set) (sym (paths_request-option _ _ _ _ c.in-len1-up.len_at_least (sym c.eq.ensures
    ∙ c.if-eq.false) (sym c.set_match_option.ensures.named ∙ c.if-set_match_option.true))
    ∙ c.loop-rest.invariant)

pub returns-in_err-limit : goal.returns-in_err-limit
returns-in_err-limit c =
    rw c.from_residual.ensures (paths_request-no_limit _ _ _ _ _ c.in-len1-up.len_at_least
    c.in-len1-up-after.len_at_least (sym c.eq.ensures ∙ c.if-eq.true) (sym c.parse_limit.ensures
    ∙ c.in_err-limit.was)
    ∙ c.loop-rest.invariant)

pub returns : goal.returns
returns c = paths_request-none _ _ _ c.in_default.len_below ∙ c.loop-rest.invariant
