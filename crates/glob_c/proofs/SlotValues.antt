-- The machine value of a `Slot`, and what the slot owns.
use Rattle.std.proofs.Common.{IsSome, ◌≡◌, List, [], ◌∷◌, ◌++◌, refl, subst}
use seplogic.Ra.Ura.{Ura}
use mir.Val.{Val, vstruct, vcons, vnil, of_list}
use types.Logic.{Logic}
use types.Kit.{Item, Goal, Seq, Step, step, ‵, ◌$◌, move, drop, fsplit, fjoin, fpick, fpack, feq_i, feq_l}
use denote.RattleType.{RattleType, Valss}
use denote.Builtin.{RawPtr}
use denote.RawPtr.{Ptr, ptr_val}
use denote.Steps.{nothing}
use denote.Struct.Struct.{within}
use denote.Struct.Owning.{shape}
use Rattle.std.specs.declared.option.Option.{Option}
use Rattle.std.specs.declared.option.Option.TheVariants.{None, Some}
use Rattle.std.proofs.lemmas.Bool.{false≢true}
use Rattle.glob_c.specs.Slots.{PatternRow, SessionRow, box_or_nothing}
use Rattle.glob_c.specs.contracts.slot.Slot as slot

abbrev pub Slot : RattleType
Slot = slot.the_row

abbrev pub slot_val : Ptr → Val
slot_val p = vstruct (vcons (ptr_val p) vnil)

-- whether a slot has a pattern or a walk
pub data Kind : Type 0 where
  a_pattern : Kind
  a_walk : Kind

abbrev pub row : Kind → RattleType
row a_pattern = PatternRow
row a_walk = SessionRow

-- the slot at a pointer to this value
abbrev pub full : (k : Kind) → Ptr → (row k).Denot → Slot.Denot
full a_pattern p x = record { at = p; text = Some x; walk = None }
full a_walk p x = record { at = p; text = None; walk = Some x }

abbrev pub held : (k : Kind) → Slot.Denot → Option (row k).Denot
held a_pattern s = s.text
held a_walk s = s.walk

-- the value in an option that is not empty
pub kept : {X : Type 0} (o : Option X) → IsSome o → (x : X) × (o ≡ Some x)
kept None is = absurd (false≢true is)
kept (Some x) is = (x, refl)

module _ {M : Type 1} {𝓤 : Ura M} {𝓛 : Logic 𝓤} {K : Type 0} {Γ : List (Item 𝓤)} {G : Goal 𝓤 𝓛.H} where
  both_out : K → (s : Slot.Denot) (vs : List Val)
      → (vs ≡ slot_val s.at ∷ [] → Seq K 𝓛 (‵ (box_or_nothing PatternRow s.at s.text) ∷ ‵ (box_or_nothing SessionRow s.at s.walk) ∷ Γ) G)
      → Seq K 𝓛 (‵ (Slot.own_val s vs) ∷ Γ) G
  both_out t s vs k =
      fsplit t $ fpick t (λ vss. fsplit t $ feq_l t (λ ev. fsplit t $ feq_l t (λ ep. drop t $ fsplit t $
      k (subst (λ (ps : List Val). vs ≡ vstruct (of_list (ps ++ [])) ∷ []) ep ev))))

  both_in : K → (s : Slot.Denot)
      → Step K 𝓛 (‵ (Slot.own_val s (slot_val s.at ∷ [])) ∷ Γ) G (‵ (box_or_nothing PatternRow s.at s.text) ∷ ‵
      (box_or_nothing SessionRow s.at s.walk) ∷ Γ) G
  both_in t s = step (λ rest. let v : Val = slot_val s.at in
      fjoin t $ nothing t $ feq_i t (List Val) (ptr_val s.at ∷ []) (ptr_val s.at ∷ []) refl $ fjoin t $ feq_i t
      (List Val) (v ∷ []) (v ∷ []) refl $ fjoin t $
      fpack t (Valss (RawPtr ∷ [])) (within (shape slot.the_type) (s.at, tt) (v ∷ [])) (ptr_val s.at ∷ [], tt) $ fjoin t $ rest)

module _ {M : Type 1} {𝓤 : Ura M} {𝓛 : Logic 𝓤} {K : Type 0} {Γ : List (Item 𝓤)} {G : Goal 𝓤 𝓛.H} where
  -- a slot taken apart
  pub slot_out : K → (k : Kind) (s : Slot.Denot) (vs : List Val)
      → (vs ≡ slot_val s.at ∷ [] → Seq K 𝓛 (‵ (box_or_nothing (row k) s.at (held k s)) ∷ Γ) G)
      → Seq K 𝓛 (‵ (Slot.own_val s vs) ∷ Γ) G
  slot_out t a_pattern s vs k = both_out t s vs (λ e. move t (1 ∷ []) $ drop t $ k e)
  slot_out t a_walk s vs k = both_out t s vs (λ e. drop t $ k e)

  -- a slot put together
  pub slot_in : K → (k : Kind) (p : Ptr) (x : (row k).Denot)
      → Step K 𝓛 (‵ (Slot.own_val (full k p x) (slot_val p ∷ [])) ∷ Γ) G (‵ (box_or_nothing (row k) p (Some x)) ∷ Γ) G
  slot_in t a_pattern p x = step (λ s. nothing t $ move t (1 ∷ []) $ both_in t (full a_pattern p x) $ s)
  slot_in t a_walk p x = step (λ s. nothing t $ both_in t (full a_walk p x) $ s)

  pub empty_in : K → (p : Ptr)
      → Step K 𝓛 (‵ (Slot.own_val (record { at = p; text = None; walk = None }) (slot_val p ∷ [])) ∷ Γ) G Γ G
  empty_in t p = step (λ s. nothing t $ nothing t $ both_in t (record { at = p; text = None; walk = None }) $ s)
