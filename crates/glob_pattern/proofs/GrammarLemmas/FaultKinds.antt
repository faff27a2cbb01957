-- The message of a fault belongs to its kind.
use Rattle.std.proofs.Common.{◌≡◌, ℕ, ◌+◌, ◌-◌, Bool, true, false, refl, sym, ap, ◌∙◌}
use Rattle.std.specs.Prelude.{not, if◌then◌else◌}
use Rattle.glob_text.specs.Text.{Text, opens, has}
use Rattle.glob_pattern.specs.Grammar.Characters.{star}
use Rattle.glob_pattern.specs.Grammar.Faults.{Fault, IsFault, Refuses, kind_of, message_of}
use Rattle.glob_pattern.specs.declared.error.PatternError.{PatternError}
use Rattle.glob_pattern.specs.declared.error.PatternErrorKind.{PatternErrorKind}
use Rattle.glob_pattern.specs.declared.error.PatternErrorKind.TheVariants.{Wildcards, Recursive, Range}
use Rattle.glob_pattern.specs.declared.error.PatternRefusal.TheVariants.{Syntax}

pub kind_of_message : (kind : PatternErrorKind) → kind_of (message_of kind) ≡ kind
kind_of_message Wildcards = refl
kind_of_message Recursive = refl
kind_of_message Range = refl

abbrev HasMessage : Fault → Type 0
HasMessage f = (kind : PatternErrorKind) × (f.message ≡ message_of kind)

abbrev choice : (a b c : Bool) (p q r s : ℕ) → Fault
choice a b c p q r s = if a then record { place = p; message = message_of Range }
    else if b then record { place = q; message = message_of Wildcards }
    else if c then record { place = r; message = message_of Recursive }
    else record { place = s; message = message_of Recursive }

chosen : (a b c : Bool) (p q r s : ℕ) → HasMessage (choice a b c p q r s)
chosen true b c p q r s = (Range, refl)
chosen false true c p q r s = (Wildcards, refl)
chosen false false true p q r s = (Recursive, refl)
chosen false false false p q r s = (Recursive, refl)

fault_kind : (text : Text) (fault : Fault) → IsFault text fault → message_of (kind_of fault.message) ≡ fault.message
unfolding IsFault
fault_kind text fault (f, units, between, inside, none, same) =
    let (kind, is) = chosen (not (has text f star)) (has text (f + 2) star) (not (opens text f)) f (f + 2) (f - 1) (f + 2) in
    let own : fault.message ≡ message_of kind = ap (λ (it : Fault). it.message) same ∙ is in
    ap (λ m. message_of (kind_of m)) own ∙ ap message_of (kind_of_message kind) ∙ sym own

pub message_of_kind : (text : Text) (e : PatternError) → Refuses text (Syntax e) → message_of (kind_of e.msg.now) ≡ e.msg.now
message_of_kind text e refused = fault_kind text _ refused
