use Rattle.std.proofs.Common.{◌≡◌, chars, refl}
use Rattle.std.proofs.lemmas.Result.{IfErr-weaker}
use Rattle.glob_text.specs.Text.{Text}
use Rattle.glob_pattern.specs.Grammar.Faults.{Fault, IsFault, Refuses}
use Rattle.glob_pattern.specs.declared.error.PatternRefusal.{PatternRefusal}
use Rattle.glob_pattern.specs.declared.error.PatternRefusal.TheVariants as refusal
use Rattle.glob_walk.proofs.laws.calls.text_is_an_equal_pattern.Goals as goal

-- a text without a fault is refused only if memory ran out
faultless : (text : Text) → ((fault : Fault) → ¬ (IsFault text fault)) → (e : PatternRefusal) → Refuses text e → e ≡ refusal.Memory
faultless text sound (refusal.Syntax e) refused = absurd (sound _ refused)
faultless text sound refusal.Memory refused = refl

pub returns-clause-accepted : goal.returns-clause-accepted
returns-clause-accepted g c =
    let refused = rw c.as_str.ensures.text at c.new.ensures.refused in
    IfErr-weaker c.new.result _ _ (faultless (chars c.args.pattern.now) (λ fault. c.accepted_has_no_fault.ensures
    (chars c.args.pattern.now) fault c.as_str.ensures.accepted)) refused
