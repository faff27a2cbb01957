use Rattle.std.proofs.Common.{refl, string_bytes, sym, subst}
use Rattle.glob_tree.proofs.ContentLemmas.Contents.{IsContent-from_test}
use Rattle.glob_search.specs.Private.Engine.{EntriesGive, FitsSource}
use Rattle.glob_search.proofs.EngineLemmas.Ending.{last-listing-of}
use Rattle.glob_search.proofs.EngineLemmas.Entering.{found-looked_up, gives-listed}
use Rattle.glob_search.proofs.EngineLemmas.Searched.{not-looked_up}
use Rattle.glob_search.proofs.searcher.Searcher.entries.Goals as goal

pub returns-in-LookedUp-clause-entries : goal.returns-in-LookedUp-clause-entries
returns-in-LookedUp-clause-entries g c = λ content a names told there path begins living fits.
    let unlisted = subst (FitsSource a names) c.in-LookedUp.is fits in
    subst (λ s. EntriesGive content a names s (string_bytes c.args.opening.now.path) c.look_up.result) (sym c.in-LookedUp.is)
    (found-looked_up content (IsContent-from_test content told.1) a names there c.args.self.now.beginnings begins
    unlisted (string_bytes c.args.opening.now.path) c.look_up.result
    (c.look_up.ensures.entries content a names told there path begins living unlisted) c.look_up.ensures.last)

pub returns-in-Listed : goal.returns-in-Listed
returns-in-Listed g c = record {
  same = refl;
  limit = c.list.ensures.limit;
  spent = c.list.ensures.spent;
  charged = c.list.ensures.charged;
  asked = c.list.ensures.asked;
  content = c.list.ensures.content;
  entries = λ content a names told there path begins living fits.
      gives-listed content (IsContent-from_test content told.1) a names there c.args.source
      (string_bytes c.args.opening.now.path) c.list.result (not-looked_up c.args.source c.in-Listed.is) fits
      (c.list.ensures.entries content names told there path);
  falls = c.list.ensures.falls;
  fails = c.list.ensures.fails;
}

pub returns-in-LookedUp-clause-fails : goal.returns-in-LookedUp-clause-fails
returns-in-LookedUp-clause-fails g c = last-listing-of _ _ c.look_up.result c.look_up.ensures.last
