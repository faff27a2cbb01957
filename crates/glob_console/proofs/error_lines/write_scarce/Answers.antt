use Rattle.std.proofs.Common.{[], ◌++◌, refl, subst}
use Rattle.std.specs.Prelude.{codes}
use Rattle.glob_lines.specs.Lines.{AppendsFront}
use Rattle.glob_console.proofs.WritingLemmas.{AppendsFront-either, AppendsFront-longer, AppendsFront-more}
use Rattle.glob_console.proofs.error_lines.write_scarce.Goals as goal

pub returns-in_err-write_whole : goal.returns-in_err-write_whole
returns-in_err-write_whole g c =
    subst (λ text. AppendsFront (g.E.Write.contents c.args.writer.now) (g.E.Write.contents c.write_whole.new.writer)
    (text ++ codes "out of memory\n"))
    c.as_bytes.ensures.value (AppendsFront-longer _ _ _ (codes "out of memory\n") c.in_err-write_whole.ensures.some)

pub returns : goal.returns
returns g c =
    subst (λ text. AppendsFront (g.E.Write.contents c.args.writer.now) (g.E.Write.contents c.write_whole-2.new.writer)
    (text ++ codes "out of memory\n"))
    c.as_bytes.ensures.value
    (AppendsFront-more _ _ _ _ c.as_bytes.result.now (codes "out of memory\n") [] refl c.in_ok-write_whole.ensures.all
    (AppendsFront-either c.write_whole-2.result _ _ _ c.write_whole-2.ensures.all c.write_whole-2.ensures.some))
