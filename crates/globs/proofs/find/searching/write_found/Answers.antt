use Rattle.std.proofs.Common.{◌++◌, ◌∙◌, sym, subst}
use Rattle.std.proofs.KnownBytes.{Keeps-refl}
use Rattle.glob_console.specs.Private.Writing.{Queues}
use Rattle.glob_console.proofs.WritingLemmas.{AppendsFront-none, OnErr-from}
use Rattle.glob_lines.specs.Lines.{AppendsFront}
use Rattle.globs.specs.Find.Writing.{item_record}
use Rattle.globs.proofs.SearchedLemmas.{Searched, Searched-cut, Searched-fault, Searched-first, Searched-last, Searched-next, Searched-none}
use Rattle.globs.proofs.find.searching.write_found.Goals as goal

pub loop-init : goal.loop-init
loop-init g c =
    let old = g.W.Write.contents c.args.output.now in
    record {
      lead = c.in_ok-lines.ensures.lead;
      end = c.in_ok-lines.ensures.end;
      searched = λ keeps sieve. subst (Searched keeps c.args.lead.now c.args.end g.T.Tree.tells g.X.RuleTexts.texts
          c.args.tree.now c.args.texts.now c.args.search.now old c.args.tree.now c.args.texts.now c.args.search.now
          c.new-findings.result old)
          (sym c.in_ok-lines.ensures.none)
          (Searched-first keeps c.args.lead.now c.args.end g.T.Tree.tells g.X.RuleTexts.texts c.args.tree.now
          c.args.texts.now c.args.search.now old c.new-findings.result c.new-findings.ensures.path);
    }

pub returns-in_err-flush-in-None-clause-some : goal.returns-in_err-flush-in-None-clause-some
returns-in_err-flush-in-None-clause-some g c keeps sieve c' a known told is fit all begun =
    let held = g.W.Write.contents in
    let l = c.loop in
    OnErr-from _ (Searched-cut keeps c.args.lead.now c.args.end g.T.Tree.tells g.X.RuleTexts.texts c.args.tree.now
    c.args.texts.now c.args.search.now (held c.args.output.now) l.tree l.texts l.search l.findings (held l.output) l.lines.waiting.items
    (l.invariant.searched keeps sieve)
    (held c.flush.new.output) c.in_err-flush-in-None.ensures.some c' a known told is fit all begun)

pub returns-in-None-clause-written : goal.returns-in-None-clause-written
returns-in-None-clause-written g c keeps sieve c' a known told is fit all begun =
    let held = g.W.Write.contents in
    let l = c.loop in
    Searched-none keeps c.args.lead.now c.args.end g.T.Tree.tells g.X.RuleTexts.texts c.args.tree.now c.args.texts.now
    c.args.search.now (held c.args.output.now) l.tree l.texts l.search l.findings (held l.output) l.lines.waiting.items
    (l.invariant.searched keeps sieve)
    c.next.new.tree c.next.new.texts c.next.new.self c.next.result c.next.ensures.content c.next.ensures.texts
    c.next.ensures.files c.next.ensures.gives
    c.in-None.is (held c.flush.new.output) c.flush.new.self.waiting.items c.in_ok-flush-in-None.ensures.all
    c.in_ok-flush-in-None.ensures.none c' a known told is fit all begun

pub returns-in_err-write_item-in-Some-clause-some : goal.returns-in_err-write_item-in-Some-clause-some
returns-in_err-write_item-in-Some-clause-some g c keeps sieve c' a known told is fit all begun =
    let held = g.W.Write.contents in
    let l = c.loop in
    let some = subst (λ e. AppendsFront (held l.output) (held c.write_item.new.output)
    (l.lines.waiting.items ++ item_record keeps c.args.lead.now e c.in-Some.item)) l.invariant.end
    (subst (λ t. AppendsFront (held l.output) (held c.write_item.new.output)
    (l.lines.waiting.items ++ item_record keeps t l.lines.end c.in-Some.item)) l.invariant.lead
    (c.in_err-write_item-in-Some.ensures.some keeps sieve)) in
    OnErr-from _ (Searched-fault keeps c.args.lead.now c.args.end g.T.Tree.tells g.X.RuleTexts.texts c.args.tree.now
    c.args.texts.now c.args.search.now (held c.args.output.now) l.tree l.texts l.search l.findings (held l.output) l.lines.waiting.items
    (l.invariant.searched keeps sieve)
    c.next.new.tree c.next.new.texts c.next.new.self c.next.result c.next.ensures.content c.next.ensures.texts
    c.next.ensures.files c.next.ensures.gives
    c.in-Some.item c.in-Some.is (held c.write_item.new.output) some c' a known told is fit all begun)

pub returns-then-branch-clause-written : goal.returns-then-branch-clause-written
returns-then-branch-clause-written g c keeps sieve c' a known told is fit all begun =
    let held = g.W.Write.contents in
    let l = c.loop in
    let wrote = c.write_item.new in
    let queued = subst (λ e. Queues (held l.output) l.lines.waiting.items (held wrote.output) wrote.lines.waiting.items
    (item_record keeps c.args.lead.now e c.in-Some.item)) l.invariant.end
    (subst (λ t. Queues (held l.output) l.lines.waiting.items (held wrote.output) wrote.lines.waiting.items
    (item_record keeps t l.lines.end c.in-Some.item)) l.invariant.lead
    (c.in_ok-write_item-in-Some.ensures.written keeps sieve)) in
    Searched-last keeps c.args.lead.now c.args.end g.T.Tree.tells g.X.RuleTexts.texts c.args.tree.now c.args.texts.now
    c.args.search.now (held c.args.output.now) l.tree l.texts l.search l.findings (held l.output) l.lines.waiting.items
    (l.invariant.searched keeps sieve)
    c.next.new.tree c.next.new.texts c.next.new.self c.next.result c.next.ensures.content c.next.ensures.texts
    c.next.ensures.files c.next.ensures.gives
    c.in-Some.item c.in-Some.is (held wrote.output) wrote.lines.waiting.items queued wrote.findings
    (c.in_ok-write_item-in-Some.ensures.noted keeps sieve)
    (sym c.in_ok-write_item-in-Some.ensures.last ∙ c.if-branch.true)
    (c.in_ok-write_item-in-Some.ensures.none c.if-branch.true) c' a known told is fit all begun

pub loop-preserved : goal.loop-preserved
loop-preserved g c =
    let held = g.W.Write.contents in
    let l = c.loop in
    let wrote = c.write_item.new in
    record {
      lead = c.in_ok-write_item-in-Some.ensures.lead ∙ l.invariant.lead;
      end = c.in_ok-write_item-in-Some.ensures.end ∙ l.invariant.end;
      searched = λ keeps sieve.
          let queued = subst (λ e. Queues (held l.output) l.lines.waiting.items (held wrote.output)
          wrote.lines.waiting.items (item_record keeps c.args.lead.now e c.in-Some.item)) l.invariant.end
          (subst (λ t. Queues (held l.output) l.lines.waiting.items (held wrote.output) wrote.lines.waiting.items
          (item_record keeps t l.lines.end c.in-Some.item)) l.invariant.lead
          (c.in_ok-write_item-in-Some.ensures.written keeps sieve)) in
          Searched-next keeps c.args.lead.now c.args.end g.T.Tree.tells g.X.RuleTexts.texts c.args.tree.now
          c.args.texts.now c.args.search.now (held c.args.output.now) l.tree l.texts l.search l.findings
          (held l.output) l.lines.waiting.items
          (l.invariant.searched keeps sieve)
          c.next.new.tree c.next.new.texts c.next.new.self c.next.result c.next.ensures.content c.next.ensures.texts
          c.next.ensures.files c.next.ensures.gives
          c.in-Some.item c.in-Some.is (held wrote.output) wrote.lines.waiting.items queued wrote.findings
          (c.in_ok-write_item-in-Some.ensures.noted keeps sieve)
          (sym c.in_ok-write_item-in-Some.ensures.last ∙ c.if-branch.false);
    }

pub returns-clause-some : goal.returns-clause-some
returns-clause-some g c keeps sieve c' a known told is fit all begun =
    let held = g.W.Write.contents in
    let l = c.loop in
    Searched-cut keeps c.args.lead.now c.args.end g.T.Tree.tells g.X.RuleTexts.texts c.args.tree.now c.args.texts.now
    c.args.search.now (held c.args.output.now) l.tree l.texts l.search l.findings (held l.output) l.lines.waiting.items
    (l.invariant.searched keeps sieve)
    (held l.output) (AppendsFront-none _ _ _ (Keeps-refl _)) c' a known told is fit all begun
