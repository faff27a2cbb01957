use Rattle.std.proofs.Common.{◌++◌, ap, map, refl, sym, ◌∙◌, arith}
use Rattle.std.specs.Prelude.{filter_map, option_map, reverse}
use Rattle.glob_tree.specs.Answers.{entries_of}
use Rattle.glob_search.specs.Private.Listings.{looked}
use Rattle.glob_search.proofs.EngineLemmas.Falling.{before-none, before-some, before-start}
use Rattle.glob_search.proofs.EngineLemmas.LookedUp.{looking-none, looking-some}
use Rattle.glob_search.proofs.EngineLemmas.Rising.{rises-from_pairs}
use Rattle.glob_search.proofs.EngineLemmas.Looking.{entry-of_entry, entries-pushed, unit-of}
use Rattle.glob_search.proofs.entries.look_up.Goals as goal

pub loop-name-init : goal.loop-name-init
loop-name-init g c = record {
  limit = refl;
  charged = omega (arith, c.new-entries.ensures.len);
  asked = omega arith;
  content = refl;
  entries = λ content names told there path.
      sym (ap (λ es. entries_of es ++ filter_map (looked content names)
      (reverse (map (λ t. t.now) c.in_ok-names.names.items))) c.new-entries.ensures.items);
  falls = before-start (map (λ t. t.now) c.in_ok-names.names.items) c.new-entries.result.items
      (rises-from_pairs (map (λ t. t.now) c.in_ok-names.names.items) c.in_ok-names.ensures.ascend) c.new-entries.ensures.items;
}

pub loop-name-preserved-in-Continue-branch-4 : goal.loop-name-preserved-in-Continue-branch-4
loop-name-preserved-in-Continue-branch-4 g c = record {
  limit = c.in_ok-entry.ensures.limit ∙ c.loop-name.invariant.limit;
  charged = omega (
    arith,
    c.in_ok-entry.ensures.charged,
    unit-of c.in_ok-entry.field-0 c.in-Some-2.entry
        c.in-Some-2.is,
    c.in_ok-push.ensures.len,
    c.loop-name.invariant.charged,
  );
  asked = omega (arith, c.in_ok-entry.ensures.asked, c.loop-name.invariant.asked);
  content = c.in_ok-entry.ensures.content ∙ c.loop-name.invariant.content;
  entries = λ content names told there path.
      looking-some (λ t. t.now) (looked content names) _ c.loop-name.names.items c.pop.new.self.items c.in-Some.name c.in-Some.ensures.items
      (entries_of c.loop-name.entries.items) (entries_of c.push.new.self.items) (c.in-Some-2.entry.name, c.in-Some-2.entry.is_dir)
      (c.loop-name.invariant.entries content names told there path)
      (sym (c.in_ok-entry.ensures.entry content names (c.loop-name.invariant.content ∙ told.0, told.1) there
      (c.as_str.ensures.value ∙ path))
      ∙ entry-of_entry c.in_ok-entry.field-0 c.in-Some-2.entry c.in-Some-2.is)
      (entries-pushed c.loop-name.entries.items c.push.new.self.items c.in-Some-2.entry c.in_ok-push.ensures.items);
  falls = before-some c.loop-name.names.items c.pop.new.self.items c.in-Some.name c.loop-name.entries.items
      c.push.new.self.items c.in-Some-2.entry c.in-Some.ensures.items
      (c.in_ok-entry.ensures.named c.in-Some-2.entry c.in-Some-2.is) c.in_ok-push.ensures.items c.loop-name.invariant.falls;
}

pub loop-name-preserved : goal.loop-name-preserved
loop-name-preserved g c = record {
  limit = c.in_ok-entry.ensures.limit ∙ c.loop-name.invariant.limit;
  charged = omega (arith, c.in_ok-entry.ensures.spent, c.loop-name.invariant.charged);
  asked = omega (arith, c.in_ok-entry.ensures.asked, c.loop-name.invariant.asked);
  content = c.in_ok-entry.ensures.content ∙ c.loop-name.invariant.content;
  entries = λ content names told there path.
      looking-none (λ t. t.now) (looked content names) _ c.loop-name.names.items c.pop.new.self.items c.in-Some.name c.in-Some.ensures.items
      (entries_of c.loop-name.entries.items) (c.loop-name.invariant.entries content names told there path)
      (sym (c.in_ok-entry.ensures.entry content names (c.loop-name.invariant.content ∙ told.0, told.1) there
      (c.as_str.ensures.value ∙ path))
      ∙ ap (option_map (λ e. (e.name, e.is_dir))) c.in_default-2.is);
  falls = before-none c.loop-name.names.items c.pop.new.self.items c.in-Some.name c.loop-name.entries.items
      c.in-Some.ensures.items c.loop-name.invariant.falls;
}
