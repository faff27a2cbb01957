-- Making a slot of a box, and taking the box out again, for patterns and for walks.
use Rattle.std.proofs.Common.{ℕ, IsSome, ◌≡◌, List, [], ◌∷◌, ◌++◌, refl, sym, ap, ◌∙◌, subst}
use seplogic.Ra.Ura.{Ura}
use mir.Raw.{raw as bare}
use mir.Syntax.{Fn, Callee, Local, Body, local, value_local, ty_ptr, place, field, copy, rv_opd, aggregate, assign, seq, return}
use mir.Val.{Val, vptr, vstruct, vcons, vnil}
use base.Logic.{SProp, ent, emp, never, id⊢, fst∗}
use base.Fml.{ftrue}
use prog.Model.{Model}
use prog.Wp.{Heap, WpFn, Closed}
use types.Logic.{Logic, sem}
use types.Kit.{‵, raw, ◌⊛◌, ◌$◌, ◌∵◌, !, qed, by, move, keep, split, fsplit, fjoin, suffices, use0, use1, rewrite}
use types.Run.{stop, fld, of_opd, no_more, and_then, returns, enter}
use types.ByLocal.{alloc_all, pass_all, free_all, look_at, get, get_in, sets}
use types.Part.{agg, sub, whole}
use contract.Monad.{fact}
use contract.Running.{Running, MachineTables, tables}
use denote.Exit.{yes}
use denote.RattleType.{RattleType, owns}
use denote.Memory.{lone}
use denote.Signature.{types_at, plain}
use denote.RawPtr.{Ptr, block_ptr, null_ptr, in_a_block}
use denote.Steps.{nothing, heard}
use denote.Param.{layout}
use denote.Param.Laws.{Laws}
use denote.Triple.Clauses.{Clauses, Ended, closing, at_exit}
use denote.Triple.Spec.{Meets}
use denote.Triple.Walked.{Stays, stay_dropped, walk_of, Goes-dropped}
use Rattle.core.proofs.cell.Inside.{one}
use Rattle.std.specs.contracts.alloc.Global as heap
use Rattle.std.proofs.alloc.Global.TheLaws as heap_laws
use Rattle.std.specs.contracts.impls.GlobalAllocator.TheImpl.{ghosts}
use Rattle.std.specs.declared.option.Option.{Option}
use Rattle.std.specs.declared.option.Option.TheVariants.{Some}
use Rattle.std.proofs.raw_atomic.Walks.{proved_at, leaves}
use Rattle.glob_c.specs.Slots.{box_or_nothing}
use Rattle.glob_c.proofs.LooseValues.{both, Loose, loose_good, loose_out, loose_in}
use Rattle.glob_c.proofs.SlotValues.{Kind, Slot, row, full, held, kept, slot_val, slot_out, slot_in}

abbrev Z : RattleType
Z = heap.the_row

abbrev LZ : Laws Z
LZ = heap_laws.the_row_laws

abbrev Box : Kind → RattleType
Box k = Loose (row k) Z LZ ghosts

abbrev value : RattleType → Local
value R = local (lone R.mir) value_local

abbrev pointers : List Local
pointers = local ty_ptr value_local ∷ local ty_ptr value_local ∷ []

-- a function of this many parameters, without type parameters
abbrev function : ℕ → List Local → Body → Fn
function n ls body = record { lifetimes = 0; outlives = []; ty_params = []; givens = 0; params = n; locals = ls; body = body }

-- `let Loose { at, alloc: _ } = loose; Slot { at: at as *mut u8 }`
abbrev of_code : Kind → Fn
of_code k = function 1 (value Slot ∷ value (Box k) ∷ pointers)
    (seq (assign (place 2 []) (rv_opd (copy (place 1 (field 0 ∷ [])))))
    (seq (assign (place 3 []) (rv_opd (copy (place 2 []))))
    (seq (assign (place 0 []) (aggregate (copy (place 3 []) ∷ []))) return)))

-- `let Slot { at } = self; Loose { at: at as *mut T, alloc }`
abbrev into_code : Kind → Fn
into_code k = function 2 (value (Box k) ∷ value Slot ∷ value Z ∷ pointers)
    (seq (assign (place 3 []) (rv_opd (copy (place 1 (field 0 ∷ [])))))
    (seq (assign (place 4 []) (rv_opd (copy (place 3 []))))
    (seq (assign (place 0 []) (aggregate (copy (place 4 []) ∷ copy (place 2 []) ∷ []))) return)))

abbrev of_ended : Kind → Ended
of_ended k = record {
  signature = record { lifetimes = 0; outlives = []; params = plain (λ _. Box k) ∷ []; result = plain (λ _. Slot) };
  kept = (yes, tt);
}

abbrev into_ended : Kind → Ended
into_ended k = record {
  signature = record { lifetimes = 0; outlives = []; params = plain (λ _. Slot) ∷ plain (λ _. Z) ∷ []; result = plain (λ _. Box k) };
  kept = (yes, (yes, tt));
}

module _ {M : Type 1} (𝓤 : Ura M) (𝓛 : Logic 𝓤) (𝓜 : Model 𝓤 𝓛.H) (𝓡 : Running 𝓤 𝓛.H 𝓜) (k : Kind) (name : Callee) where
  abbrev H : Heap 𝓤
  H = 𝓛.H

  abbrev 𝓣 : MachineTables 𝓤 H 𝓜
  𝓣 = tables 𝓤 H 𝓜 𝓡 𝓡.env

  abbrev R : RattleType
  R = row k

  -- a slot of a box
  pub of_meets : (c : Clauses 𝓤 (of_ended k))
      → ((x : (Box k).Denot) (g : (c tt (x, tt)).ghost) (p : Ptr) → ent 𝓤 (emp 𝓤) ((c tt (x, tt)).ensures g
      (full k p x.value) (at_exit (of_ended k) tt (x, tt) (tt, tt))))
      → Closed 𝓤 H 𝓣.C 𝓣.Λ name (of_code k)
      → Meets 𝓛 (of_ended k).signature (𝓣.C name) (closing 𝓛 (of_ended k) c)
  of_meets c told closed =
      let En = of_ended k in let fn = of_code k in
      let hs : Stays En.signature.params En.kept = (stay_dropped (plain (λ _. Box k)) yes, tt) in
      proved_at 𝓛 En hs c 𝓜 𝓡 (Goes-dropped 𝓛 0 (plain (λ _. Box k)) yes (λ κs x w. refl), tt) name fn closed (λ z are.
      let κs = z.0.0 in let v = z.0.3.0 in let Post : Val → SProp 𝓤 = (walk_of 𝓛 En hs c).post z in let Run : List Val
      → SProp 𝓤 = λ ws. WpFn 𝓤 H 𝓣.C 𝓣.Λ fn ws Post in
      let asked = raw ((c κs z.0.3).requires z.1) in
      qed 𝓛 ((‵ ftrue ⊛ ‵ (owns (types_at En.signature.params κs) z.0.3 z.0.4)) ∷ asked ∷ []) ∵ split ! $ move !
      (1 ∷ []) $ fsplit ! $ loose_out R Z LZ ghosts ! v z.0.4.0 (λ b o h e ws fits.
      let w : Val = both (vptr b o) h in let typed = loose_good R Z LZ ghosts b o h fits in let p = block_ptr b o in
      let s : Slot.Denot = full k p v.value in
      suffices ! (Run (w ∷ [])) (subst (λ (us : List Val). ent 𝓤 (Run (w ∷ [])) (Run us)) (sym (λ i. ws i ++ [])) (id⊢ 𝓤 (Run (w ∷ [])))) $
      enter ! 𝓣.C 𝓣.Λ fn (w ∷ []) Post $ alloc_all ! (λ l. pass_all ! refl (typed, tt) $
      sets ! (of_opd ! (get_in ! (fld ! refl (stop !)) (sub ! 0 refl (whole !)))) refl (tt, tt) $
      sets ! (of_opd ! (get ! refl)) refl (tt, tt) $
      sets ! (agg ! (and_then ! (get ! refl) (no_more !))) refl (tt, (tt, tt)) $
      slot_in ! k p v.value $
      use0 𝓛 (raw ((c κs z.0.3).ensures z.1 s (at_exit En κs z.0.3 (tt, tt)))) (told v z.1 p) $ nothing ! $ nothing ! $ fjoin ! $
      returns ! (look_at ! 0 refl) $ free_all ! refl $ keep ! (5 ∷ 0 ∷ 2 ∷ 1 ∷ []) $ by ! (leaves 𝓛 En hs c z
      (slot_val p) s (tt, tt) (tt, tt)))))

  -- the box of a slot
  pub into_meets : (c : Clauses 𝓤 (into_ended k))
      → ((s : Slot.Denot) (a : Z.Denot) (g : (c tt (s, (a, tt))).ghost) → ent 𝓤 ((c tt (s, (a, tt))).requires g)
      (fact 𝓤 (IsSome (held k s))))
      → ((s : Slot.Denot) (a : Z.Denot) (g : (c tt (s, (a, tt))).ghost) (x : (Box k).Denot) → held k s ≡ Some x.value
      → ent 𝓤 (emp 𝓤) ((c tt (s, (a, tt))).ensures g x (at_exit (into_ended k) tt (s, (a, tt)) (tt, (tt, tt)))))
      → Closed 𝓤 H 𝓣.C 𝓣.Λ name (into_code k)
      → Meets 𝓛 (into_ended k).signature (𝓣.C name) (closing 𝓛 (into_ended k) c)
  into_meets c asks told closed =
      let En = into_ended k in let fn = into_code k in
      let hs : Stays En.signature.params En.kept = (stay_dropped (plain (λ _. Slot)) yes, (stay_dropped (plain (λ _. Z)) yes, tt)) in
      proved_at 𝓛 En hs c 𝓜 𝓡 (
        Goes-dropped 𝓛 0 (plain (λ _. Slot)) yes (λ κs x w. refl),
        (
          Goes-dropped 𝓛 0
              (plain (λ _. Z)) yes (λ κs x w. refl),
          tt,
        ),
      ) name fn closed (λ z are.
      let κs = z.0.0 in let d = z.0.3.0 in let a = z.0.3.1.0 in let Post : Val → SProp 𝓤 = (walk_of 𝓛 En hs c).post z
      in let Run : List Val → SProp 𝓤 = λ ws. WpFn 𝓤 H 𝓣.C 𝓣.Λ fn ws Post in
      let handle = one (layout Z) z.0.4.1.0 ((LZ.lawful 𝓛).typed a z.0.4.1.0 are.1.0) in let h = handle.0 in let fits = handle.2 in
      qed 𝓛 ((‵ ftrue ⊛ ‵ (owns (types_at En.signature.params κs) z.0.3 z.0.4)) ∷ raw ((c κs z.0.3).requires z.1) ∷ []) ∵
      move ! (1 ∷ []) $ use1 𝓛 (raw (fact 𝓤 (IsSome (held k d)))) (asks d a z.1) $ heard ! (IsSome (held k d))
      (λ is. let value = (kept (held k d) is).0 in let there = (kept (held k d) is).1 in split ! $ move !
      (1 ∷ []) $ fsplit ! $ slot_out ! k d z.0.4.0 (λ ws.
      rewrite ! 0 (λ (t : Option R.Denot). ‵ (box_or_nothing R d.at t)) there refl $
      in_a_block ! d.at (λ p. box_or_nothing R p (Some value)) (fst∗ 𝓤 (never 𝓤) (sem 𝓛 (ghosts.dealloc_token a
      (bare (lone R.mir)) null_ptr))) (λ b o e.
      let w : Val = vstruct (vcons (vptr b o) vnil) in let v : Val = both (vptr b o) h in let x : (Box k).Denot =
      record { at = block_ptr b o; alloc = a; value = value } in
      let typed = loose_good R Z LZ ghosts b o h fits in let us : z.0.4.0 ≡ w ∷ [] = ws ∙ ap (λ (p : Ptr). slot_val p ∷ []) e in
      -- [the box; the handle and nothing; the tokens]
      move ! (1 ∷ []) $ fsplit ! $ rewrite ! 0 (λ (vs : List Val). ‵ (Z.own_val a vs)) handle.1 refl $
      suffices ! (Run (w ∷ h ∷ [])) (subst (λ (vs : List Val). ent 𝓤 (Run (w ∷ h ∷ [])) (Run vs))
      (sym (λ i. us i ++ (handle.1 i ++ []))) (id⊢ 𝓤 (Run (w ∷ h ∷ [])))) $
      enter ! 𝓣.C 𝓣.Λ fn (w ∷ h ∷ []) Post $ alloc_all ! (λ l. pass_all ! refl ((tt, (tt, tt)), (fits, tt)) $
      sets ! (of_opd ! (get_in ! (fld ! refl (stop !)) (sub ! 0 refl (whole !)))) refl (tt, tt) $
      sets ! (of_opd ! (get ! refl)) refl (tt, tt) $
      sets ! (agg ! (and_then ! (get ! refl) (and_then ! (get ! refl) (no_more !)))) refl typed $
      move ! (2 ∷ 0 ∷ []) $ loose_in R Z LZ ghosts ! b o h a value $
      use0 𝓛 (raw ((c κs z.0.3).ensures z.1 x (at_exit En κs z.0.3 (tt, (tt, tt))))) (told d a z.1 x there) $ nothing !
      $ nothing ! $ fjoin ! $ nothing ! $ fjoin ! $
      returns ! (look_at ! 0 refl) $ free_all ! refl $ keep ! (4 ∷ 0 ∷ 2 ∷ 1 ∷ []) $ by ! (leaves 𝓛 En hs c z v x
      (tt, (tt, tt)) (tt, (tt, tt))))))))
