use Rattle.std.proofs.Common.{refl}
use Rattle.std.proofs.lemmas.Str.{is_utf8-from_IsUtf8}
use Rattle.glob_tree.proofs.ContentLemmas.Resolving.{pieces_one}
use Rattle.glob_tree.proofs.MemoryLemmas.Keys.{no_slash_from_chars, pieces_last, cut_at_slash, utf8_after}
use Rattle.glob_tree.proofs.keys.last_name.Goals as goal

pub returns-in-Some : goal.returns-in-Some
returns-in-Some c =
    let h = c.in-Some.ensures.cases in
    record {
      names = pieces_last c.args.names.now c.in-Some.directory.now c.in-Some.name.now _ (cut_at_slash c.args.names.now
          c.in-Some.directory.now c.in-Some.name.now h.0 h.1 h.3 h.4 h.2.1) h.4 h.2.0;
      utf8 = utf8_after c.args.names.now c.in-Some.name.now h.0 h.1 c.utf8.names h.4 h.2.1;
    }

pub returns-in-None : goal.returns-in-None
returns-in-None c = record {
  names = pieces_one c.args.names.now (no_slash_from_chars c.args.names.now c.args.names.now refl c.in-None.ensures.cases);
  utf8 = is_utf8-from_IsUtf8 c.args.names.now c.utf8.names;
}
