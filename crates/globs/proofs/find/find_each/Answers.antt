use Rattle.std.proofs.Common.{◌≡◌, ◌∙◌, ℕ, ◌+◌, ◌<◌, ◌≤◌, List, [], ◌∷◌, ◌++◌, Bor, ap, arith, drop, get_or, length, map, sym, take}
use Rattle.std.proofs.lemmas.List.{drop_more, map-append, take-append-drop, take_all, take_more}
use Rattle.glob_console.proofs.WritingLemmas.{OnErr-from}
use Rattle.glob_text.specs.Text.{Text}
use Rattle.globs.proofs.EachLemmas.{searched_all, searched_cut, searched_more, searched_none}
use Rattle.globs.proofs.find.find_each.Goals as goal

-- the leads so far, and one more
leads_more : (ls : List (Bor Text)) (i : ℕ) (d : Bor Text) → i < length ls
    → map (λ l. l.now) (take i ls) ++ (get_or ls i d).now ∷ [] ≡ map (λ l. l.now) (take (i + 1) ls)
leads_more ls i d less = sym (ap (map (λ l. l.now)) (take_more ls i d less) ∙ map-append (λ l. l.now) (take i ls) (get_or ls i d ∷ []))

-- the leads are the leads so far, one more, and the others
leads_split : (ls : List (Bor Text)) (i : ℕ) (d : Bor Text) → i < length ls
    → map (λ l. l.now) ls ≡ map (λ l. l.now) (take i ls) ++ (get_or ls i d).now ∷ map (λ l. l.now) (drop (i + 1) ls)
leads_split ls i d less =
    ap (map (λ l. l.now)) (sym (take-append-drop i ls) ∙ ap (λ rest. take i ls ++ rest) (drop_more ls i d less))
    ∙ map-append (λ l. l.now) (take i ls) (get_or ls i d ∷ drop (i + 1) ls)

-- the leads so far are all
leads_all : (ls : List (Bor Text)) (i : ℕ) → length ls ≤ i → map (λ l. l.now) (take i ls) ≡ map (λ l. l.now) ls
leads_all ls i end = ap (map (λ l. l.now)) (take_all i ls end)

pub loop-lead-init : goal.loop-lead-init
loop-lead-init g c =
    searched_none _ _ _ _ c.new-findings.result (g.W.Write.contents c.args.output.now) c.new-findings.ensures.path
    c.new-findings.ensures.fault

pub loop-lead-preserved : goal.loop-lead-preserved
loop-lead-preserved g c =
    let l = c.loop-lead in
    searched_more _ _ _ _ _ _ _ _ _ _ _ _ _ (leads_more c.args.leads.now l.lead-index _ (omega arith)) l.invariant
    c.in_ok-status.ensures.found
    c.note.ensures.fault c.note.ensures.path

pub returns-in_err-status-clause-some : goal.returns-in_err-status-clause-some
returns-in_err-status-clause-some g c =
    let l = c.loop-lead in
    OnErr-from _ (searched_cut _ _ _ _ _ _ _ _ _ _ _ _ (leads_split c.args.leads.now l.lead-index _ (omega arith))
    l.invariant c.in_err-status.ensures.some)

pub returns-clause-found : goal.returns-clause-found
returns-clause-found g c =
    let l = c.loop-lead in
    searched_all _ _ _ _ _ _ _ _ _ (leads_all c.args.leads.now l.lead-index (omega arith)) l.invariant
