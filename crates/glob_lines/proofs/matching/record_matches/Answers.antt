use Rattle.std.proofs.Common.{rules}
use Rattle.std.proofs.lemmas.Str.{IsUtf8-from_is_utf8, is_utf8-from_IsUtf8}
use Rattle.glob_lines.proofs.matching.record_matches.Goals as goal

pub returns-in-Ok : goal.returns-in-Ok
returns-in-Ok g c = search (rules, is_utf8-from_IsUtf8)

pub returns-in-Err : goal.returns-in-Err
returns-in-Err g c = search (rules, IsUtf8-from_is_utf8)
