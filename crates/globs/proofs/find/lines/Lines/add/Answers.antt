use Rattle.std.proofs.Common.{◌≡◌, ℕ, List, [], ◌++◌, ◌∷◌, Option, Some, None, sym, ap, subst, ◌∙◌, append-nil, append_assoc}
use Rattle.std.specs.Io.KnownBytes.{Appends}
use Rattle.std.proofs.KnownBytes.{Keeps-refl}
use Rattle.std.proofs.lemmas.Result.{err_from_is_err_and}
use Rattle.glob_lines.specs.Lines.{AppendsFront, ended_record}
use Rattle.glob_console.proofs.WritingLemmas.{AppendsFront-none, OnErr-from}
use Rattle.globs.proofs.find.lines.Lines.add.Goals as goal

-- nothing is written
Appends-none : (known : Option (List ℕ)) → Appends known known []
Appends-none None = tt
Appends-none (Some xs) = sym (append-nil xs)

-- what waits once a lead, a path and their end follow
waits_more : (waiting lead path with_lead with_path all : List ℕ) (end : ℕ) → with_lead ≡ waiting ++ lead → with_path ≡ with_lead ++ path
    → all ≡ with_path ++ end ∷ [] → all ≡ waiting ++ ended_record end (lead ++ path)
waits_more waiting lead path with_lead with_path all end first second third =
    third ∙ ap (λ l. l ++ end ∷ []) (second ∙ ap (λ l. l ++ path) first ∙ append_assoc waiting lead path)
    ∙ append_assoc waiting (lead ++ path) (end ∷ [])

pub returns-in_err-extend_from_slice-clause-line : goal.returns-in_err-extend_from_slice-clause-line
returns-in_err-extend_from_slice-clause-line g c = rw (err_from_is_err_and c.from_residual.result c.from_residual.ensures.1).1 tt

pub returns-in_err-extend_from_slice-clause-some : goal.returns-in_err-extend_from_slice-clause-some
returns-in_err-extend_from_slice-clause-some g c = OnErr-from _ (AppendsFront-none _ _ _ (Keeps-refl _))

pub returns-in_err-extend_from_slice-2-clause-line : goal.returns-in_err-extend_from_slice-2-clause-line
returns-in_err-extend_from_slice-2-clause-line g c =
    rw (err_from_is_err_and c.from_residual-in_err-extend_from_slice-2.result c.from_residual-in_err-extend_from_slice-2.ensures.1).1 tt

pub returns-in_err-extend_from_slice-2-clause-some : goal.returns-in_err-extend_from_slice-2-clause-some
returns-in_err-extend_from_slice-2-clause-some g c = OnErr-from _ (AppendsFront-none _ _ _ (Keeps-refl _))

pub returns-in_err-extend_from_slice-3-clause-line : goal.returns-in_err-extend_from_slice-3-clause-line
returns-in_err-extend_from_slice-3-clause-line g c =
    rw (err_from_is_err_and c.from_residual-in_err-extend_from_slice-3.result c.from_residual-in_err-extend_from_slice-3.ensures.1).1 tt

pub returns-in_err-extend_from_slice-3-clause-some : goal.returns-in_err-extend_from_slice-3-clause-some
returns-in_err-extend_from_slice-3-clause-some g c = OnErr-from _ (AppendsFront-none _ _ _ (Keeps-refl _))

pub returns-in_err-flush-clause-line : goal.returns-in_err-flush-clause-line
returns-in_err-flush-clause-line g c =
    rw (err_from_is_err_and c.from_residual-in_err-flush.result c.from_residual-in_err-flush.ensures.1).1 tt

pub returns-in_err-flush-clause-some : goal.returns-in_err-flush-clause-some
returns-in_err-flush-clause-some g c =
    let front = c.in_ok-extend_from_slice.ensures.items ∙ ap (λ bytes. c.args.self.now.waiting.items ++ bytes) c.as_bytes.ensures.value in
    let read = c.in_ok-extend_from_slice-2.ensures.items ∙ ap (λ bytes. c.extend_from_slice.new.self.items ++ bytes)
    c.as_bytes-2.ensures.value in
    let more = waits_more c.args.self.now.waiting.items c.args.self.now.lead.now c.args.path.now c.extend_from_slice.new.self.items
    c.extend_from_slice-2.new.self.items c.extend_from_slice-3.new.self.items c.args.self.now.end front read
    c.in_ok-extend_from_slice-3.ensures.items in
    OnErr-from _ (subst (λ bytes. AppendsFront (g.W.Write.contents c.args.output.now)
    (g.W.Write.contents c.flush.new.output) bytes) more c.in_err-flush.ensures.some)

pub returns-then-len-lt-CAPACITY-clause-line : goal.returns-then-len-lt-CAPACITY-clause-line
returns-then-len-lt-CAPACITY-clause-line g c =
    let front = c.in_ok-extend_from_slice.ensures.items ∙ ap (λ bytes. c.args.self.now.waiting.items ++ bytes) c.as_bytes.ensures.value in
    let read = c.in_ok-extend_from_slice-2.ensures.items ∙ ap (λ bytes. c.extend_from_slice.new.self.items ++ bytes)
    c.as_bytes-2.ensures.value in
    let more = waits_more c.args.self.now.waiting.items c.args.self.now.lead.now c.args.path.now c.extend_from_slice.new.self.items
    c.extend_from_slice-2.new.self.items c.extend_from_slice-3.new.self.items c.args.self.now.end front read
    c.in_ok-extend_from_slice-3.ensures.items in
    ([], Appends-none (g.W.Write.contents c.args.output.now), sym more)

pub returns-clause-line : goal.returns-clause-line
returns-clause-line g c =
    let front = c.in_ok-extend_from_slice.ensures.items ∙ ap (λ bytes. c.args.self.now.waiting.items ++ bytes) c.as_bytes.ensures.value in
    let read = c.in_ok-extend_from_slice-2.ensures.items ∙ ap (λ bytes. c.extend_from_slice.new.self.items ++ bytes)
    c.as_bytes-2.ensures.value in
    let more = waits_more c.args.self.now.waiting.items c.args.self.now.lead.now c.args.path.now c.extend_from_slice.new.self.items
    c.extend_from_slice-2.new.self.items c.extend_from_slice-3.new.self.items c.args.self.now.end front read
    c.in_ok-extend_from_slice-3.ensures.items in
    let q = c.in_ok-flush.ensures.all in
    (q.0, q.1, sym more ∙ sym (append-nil c.extend_from_slice-3.new.self.items) ∙ q.2)
