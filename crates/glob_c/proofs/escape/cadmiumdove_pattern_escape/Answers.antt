-- What is written to the buffer is the text of a `String`.
use Rattle.std.proofs.Common.{drop, length}
use Rattle.glob_c.proofs.Written.{written_text}
use Rattle.glob_c.proofs.escape.cadmiumdove_pattern_escape.Goals as goal

pub returns-clause-utf8 : goal.returns-clause-utf8
returns-clause-utf8 c = λ _. written_text c.as_bytes-bytes.result.now c.copy_from_slice.new.self
    (drop (length c.as_bytes-bytes.result.now) c.args.out.now)
    c.copy_from_slice.ensures.after c.as_bytes-bytes.ensures.utf8
