-- How a proof computes what patterns match and what walks give.
use Rattle.std.specs.Str.{chars, is_utf8}
use lib.Utf8.{encode}
use Rattle.glob_tree.specs.Paths.{join, child}
use Rattle.glob_tree.specs.Content.{is_content, kind_at, children, resolve, look_result, list_result}
use Rattle.glob_tree.specs.Memory.{add_refusal, current_refusal, content_with, with_current, directory_key, list_fault}
use Rattle.glob_walk.specs.Walks.{listing, descent, enter, meet}
use Rattle.glob_walk.specs.Components.{walk_fault}
use Rattle.glob_walk.specs.Goal.{goal, is_plain, is_readable}
use Rattle.glob_pattern.specs.Computing.Reading.{units_from}
use Rattle.glob_pattern.specs.Computing.Deciding.{is_match, tokens_match}

-- opens all definitions that compute, so that `refl` computes them at literals
unfoldable pub computed : Unit {0}
unfolding chars is_utf8 encode units_from is_match tokens_match join child kind_at children resolve look_result
    list_result is_content add_refusal current_refusal content_with with_current directory_key list_fault descent enter
    meet listing walk_fault is_plain is_readable goal
computed = tt
