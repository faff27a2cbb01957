use Rattle.std.proofs.Common.{◌∷◌, take, sym, ap, ◌∙◌}
use Rattle.std.proofs.lemmas.List.{take_rest}
use Rattle.glob_lines.specs.Lines.{records_of}
use Rattle.glob_lines.proofs.LineLemmas.LineSplits.{records_of-place, records_of-no_place}
use Rattle.glob_lines.proofs.lines.split_record.Goals as goal

pub returns-in-Some-clause-records : goal.returns-in-Some-clause-records
returns-in-Some-clause-records c =
    let bytes = c.args.bytes.now in
    records_of-place c.args.end bytes c.in-Some.place (sym c.first_end.ensures ∙ c.in-Some.is)
    ∙ ap (λ l. take c.in-Some.place bytes ∷ records_of c.args.end l) (sym (take_rest bytes _))

pub returns-in-None-clause-records : goal.returns-in-None-clause-records
returns-in-None-clause-records c = records_of-no_place c.args.end _ (sym c.first_end.ensures ∙ c.in-None.is) c.requires
