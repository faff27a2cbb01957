-- The block is counted by the ration, and then goes back to the inner allocator. Assumes `Logic`.
--     Wrapped, Held      the handle's row, and what a `&` to a ration holds
--     Counts, at_counts, counts-goes, counts-gives
--                        `count_return` at its call: its contract, what it is handed, and what it leaves, `()` and the token
use Rattle.std.proofs.Common.{◌≡◌, ℕ, ◌+◌, Option, List, [], ◌∷◌, refl, ap, sym, subst, w64}
use lib.Dec.{T}
use mir.Syntax.{Args, Fn, a_type, ty_unit, dnil, dcons}
use seplogic.Ra.Ura.{Ura}
use mir.Val.{Val, vunit, vint, vptr, has_ty, WT}
use mir.MapTy.{inst_fn}
use base.Logic.{SProp, ent, sep, guard, id⊢, fst∗, never}
use base.Fml.{Fml, Lft, Share, ftrue, fsep, flft}
use prog.Memory.{Memory, size, align, capped, up}
use prog.Routine.{Routine}
use prog.Wp.{WpFn}
use types.Logic.{Logic, sem}
use contract.BorrowLft.{◌⊑◌, ⊑_trans}
use contract.Monad.{Fun, fact}
use contract.Running.{tables, tables_of}
use sound.WpLaws.{fm_of}
use types.Kit.{Item, ‵, raw, ◌⊛◌, some, later, given, prop, at_ret, ◌$◌, ◌∵◌, !, qed, by, move, keep, use1, use2, split}
use types.Kit.{split3, join, pick, learn, fsplit, fjoin, feq_i, feq_l, check, regoal, await, updating, now as at_once}
use types.Kit.{done}
use types.Run.{stop, fld, addr, no_more, and_then, of_opd, unit_lit, first, blocks, exec, returns, enter}
use types.ByLocal.{alloc_all, pass_all, free_all, look_at, get, through, sets, lands_as, lands_last, env}
use denote.Builtin.{usize, unit, RawPtr, RefOf}
use denote.Exit.{yes}
use denote.Memory.{hidden_shr}
use denote.Opens.{unhide}
use denote.Param.{bounded, param}
use denote.Plain.{uint_vals, uint_Tells}
use denote.RattleType.{RattleType, owns}
use denote.RawPtr.{Ptr, block_ptr, null_ptr, ptr_val, in_a_block, rawptr_vals, rawptr_Tells}
use denote.Ref.{shr_vals}
use denote.Signature.{Slot, plain, types_at}
use denote.Steps.{heard, nothing, only}
use denote.Triple.Call.{calls_at, calls_at_last}
use denote.Triple.Entry.{alive}
use denote.Triple.Spec.{triple_of}
use denote.Triple.Statement.{Contract}
use denote.Triple.Walked.{Stays, stay_dropped, walk_of, Goes-dropped}
use Rattle.std.proofs.alloc.Calls.{Al, α, seen, token, Gives, at_gives, Gives-goes, Gives-Gives}
use Rattle.std.proofs.raw_atomic.Walks.{proved, leaves}
use Rattle.std.proofs.VecSteps.Shapes.{after}
use Rattle.std.specs.Allocator.{owned_block}
use Rattle.glob_replay.specs.contracts.ration.Ration as ration
use Rattle.glob_replay_memory.specs.contracts.rationing.Rationed as wrapper
use Rattle.glob_replay.specs.contracts.ration.Ration.count_return as counts
use Rattle.glob_replay.proofs.ration.Ration.count_return.Met as counts_met
use Rattle.glob_replay_memory.specs.contracts.rationing.RationedAllocator.deallocate as f
use Rattle.glob_replay_memory.proofs.rationing.RationedAllocator.deallocate.Statement.{statement}
use Rattle.glob_replay_memory.proofs.rationing.RationedAllocator.deallocate.Code as code

abbrev Wrapped : RattleType → RattleType
Wrapped Y = wrapper.the_row (param 0 Y)

abbrev Held : Lft → ℕ × ℕ → Option ℕ → Fml
Held κ p refused = hidden_shr ration.the_row κ refused p.0 p.1

module _ {M : Type 1} {𝓤 : Ura M} (𝓛 : Logic 𝓤) (at_mem : Memory → SProp 𝓤) (run : Routine → Fun 𝓤) where
  open 𝓛 use {H, A}

  abbrev Counts : Contract 𝓤
  Counts = triple_of 𝓛 counts.signature (counts.spec 𝓛 at_mem run)

  module _ (κ : Lft) (q : Share) (p : ℕ × ℕ) (refused : Option ℕ) where
    abbrev at_counts : Counts.Ghost
    at_counts = (((κ, tt), (q, tt), tt, (record { ref_ptr = p; now = refused }, tt), (vptr p.0 p.1 ∷ [], tt)), tt)

    counts-goes : ent 𝓤 (sep 𝓤 (sem 𝓛 (Held κ p refused)) (A.lft κ q)) (Counts.pre at_counts)
    counts-goes = qed 𝓛 (‵ (Held κ p refused) ∷ ‵ (flft κ q) ∷ []) ∵
        feq_i ! (List Val) (vptr p.0 p.1 ∷ []) (vptr p.0 p.1 ∷ []) refl $ fjoin ! $ nothing ! $ move ! (1 ∷ 0 ∷ []) $ fjoin ! $
        nothing ! $ move ! (2 ∷ 0 ∷ []) $ join ! $ join ! $ nothing ! $ move ! (1 ∷ 0 ∷ []) $ done !

    counts-gives : (v : Val) → ent 𝓤 (Counts.post at_counts v) (H.⇛ (guard 𝓤 (v ≡ vunit) (A.lft κ q)))
    counts-gives v = qed 𝓛 (raw (Counts.post at_counts v) ∷ []) ∵ updating ! $
        use1 𝓛 (later (some (λ (y : Unit {0}). ((‵ (flft κ q) ⊛ ‵ ftrue) ⊛ ‵ (unit.own_val y (v ∷ [])))
        ⊛ some (λ (ws : Unit {0} × Unit {0}). ‵ (fsep ftrue ftrue) ⊛ ‵ ftrue)))) (id⊢ 𝓤 _) $ await ! tt $ pick ! (λ y.
        split ! $ split ! $ move ! (1 ∷ []) $ feq_l ! (λ e. split ! $ at_once ! $ check ! (ap only e) $ keep ! (0 ∷ []) $ done !))

pub deallocate_spec : {M : Type 1} → statement M
unfolding tables_of
deallocate_spec 𝓤 𝓛 𝓜 𝓡 wired Y L g d d' met _ =
    let Z : Al = record { row = Y; laws = L; g = g; d = d; drops = d' } in
    let H = 𝓛.H in let 𝓣 = tables 𝓤 H 𝓜 𝓡 𝓡.env in let fm = fm_of 𝓤 H 𝓛.laws (tables_of 𝓤 H 𝓜 𝓣) in
    let inst : Args = bounded (a_type ∷ []) (Y, tt) (dcons d (dcons d' dnil)) in let fn : Fn = inst_fn inst code.function in
    let En = f.ended Y g d d' in let c = f.clauses Y g d d' 𝓛 𝓜.mem 𝓡.returns in
    let self : Slot 2 = RefOf (0 ∷ []) tt (plain (λ _. Wrapped Y)) (λ _. tt) in let pointer : Slot 2 =
    plain (λ _. RawPtr) in let word : Slot 2 = plain (λ _. usize) in
    let hs : Stays En.signature.params En.kept = (
      stay_dropped self yes,
      (stay_dropped pointer yes, (stay_dropped word yes, (stay_dropped word yes, tt))),
    ) in
    let word_goes = Goes-dropped 𝓛 2 word yes (λ κs x w. refl) in
    proved 𝓛 En hs c 𝓜 𝓡 (
      Goes-dropped 𝓛 2 self yes (λ κs x w. refl),
      (Goes-dropped 𝓛 2 pointer yes (λ κs x w. refl), (word_goes, (word_goes, tt))),
    ) (f.Key.name inst) fn
    (code.unfolded 𝓤 H 𝓜 𝓡 wired (Y, tt) d d')
    (λ κs. (shr_vals, (rawptr_vals, (uint_vals w64, (uint_vals w64, tt)))))
    (λ κs. ((λ r vs s. s.0), (rawptr_Tells, (uint_Tells w64, (uint_Tells w64, tt)))))
    (λ κs qs bounds a τ are.
    let r = a.0 in let n = a.1.1.0 in let al = a.1.1.1.0 in let h : Y.Denot = r.now.inner in let κ : Lft =
    κs.0 in let κ' : Lft = κs.1.0 in let q : Share = qs.0 in
    let counter : ℕ × ℕ = (r.ref_ptr.0, r.ref_ptr.1 + 0) in let inner : ℕ × ℕ = (r.ref_ptr.0, r.ref_ptr.1 + up (align (α Z)) 40) in
    let vs : Ptr → List Val = λ x. vptr r.ref_ptr.0 r.ref_ptr.1 ∷ ptr_val x ∷ vint w64 n ∷ vint w64 al ∷ [] in
    let z : Ptr → (walk_of 𝓛 En hs c).Ghost = λ x. (
      (
        κs,
        qs,
        bounds,
        (r, (x, (n, (al, tt)))),
        (shr_vals r, (rawptr_vals x, (vint w64 n ∷ [], (vint w64 al ∷ [], tt)))),
      ),
      τ,
    ) in
    let Post : Ptr → Val → SProp 𝓤 = λ x. (walk_of 𝓛 En hs c).post (z x) in
    let Said : Type 0 = (capped (size τ) ≡ n) × (capped (align τ) ≡ al) in
    let Tokens : SProp 𝓤 = alive 𝓛 En.signature κs qs in let Rest : Item 𝓤 = ‵ (flft κ' qs.1.0) ⊛ ‵ ftrue in
    let Counted = Counts 𝓛 𝓜.mem 𝓡.returns in let counted : Counted.Ghost = at_counts 𝓛 𝓜.mem 𝓡.returns κ q counter r.now.ration in
    let Given = Gives Z 𝓛 𝓜.mem 𝓡.returns in
    qed 𝓛 ((raw Tokens ⊛ ‵ (owns (types_at En.signature.params κs) a (z a.1.0).0.4)) ∷
    (raw (fact 𝓤 (κ' ⊑ Y.lives)) ⊛ raw (fact 𝓤 Said) ⊛ ‵ (owned_block (token Z h) τ a.1.0)) ∷ []) ∵
    move ! (1 ∷ []) $ split3 ! $ heard ! (κ' ⊑ Y.lives) (λ le. heard ! Said (λ said.
    in_a_block ! a.1.0 (owned_block (token Z h) τ) (fst∗ 𝓤 (never 𝓤) (sem 𝓛 (token Z h τ null_ptr)))
    (λ b o at. regoal ! (λ x. prop (WpFn 𝓤 H 𝓣.C 𝓣.Λ fn (vs x) (Post x))) at refl $
    let x : Ptr = block_ptr b o in let given_back : Given.Ghost = at_gives Z 𝓛 𝓜.mem 𝓡.returns κ q inner h b o n al τ in
    move ! (1 ∷ []) $ split ! $ move ! (1 ∷ []) $ fsplit ! $ fsplit ! $ keep ! (1 ∷ 3 ∷ 4 ∷ []) $ unhide ! $ fsplit ! $
    fsplit ! $ move ! (1 ∷ []) $ fsplit ! $ use1 𝓛 (‵ (seen Z κ inner h)) (id⊢ 𝓤 _) $ keep ! (4 ∷ 2 ∷ 0 ∷ 5 ∷ []) $
    use1 𝓛 (‵ (flft κ q) ⊛ Rest) (id⊢ 𝓤 Tokens) $ split ! $ move ! (2 ∷ 0 ∷ 3 ∷ 4 ∷ 1 ∷ []) $
    -- [the ration; the token of κ; the inner allocator; the block; the other tokens]
    enter ! _ _ _ _ _ $ alloc_all ! (λ l. pass_all ! refl (
      (tt, tt),
      ((tt, tt), ((tt, record { fits = are.1.1.0.1 }), ((tt, record { fits = are.1.1.1.0.1 }), tt))),
    ) $
    sets ! (addr ! (through ! refl (fld ! refl (stop !)))) refl (tt, tt) $
    use2 𝓛 (raw (Counted.pre counted)) (counts-goes 𝓛 𝓜.mem 𝓡.returns κ q counter r.now.ration) $
    calls_at ! fm Counted (counts_met.met 𝓤 𝓛 𝓜 𝓡 (code.calls-glob_replay::ration::Ration::count_return 𝓡.env wired))
    counted (and_then ! (get ! refl) (no_more !)) (λ u.
    use1 𝓛 (later (given (u ≡ vunit) (‵ (flft κ q)))) (counts-gives 𝓛 𝓜.mem 𝓡.returns κ q counter r.now.ration u) $
    await ! tt $ learn ! (λ is. lands_as ! is refl (tt, tt) $
    first ! $ blocks ! $ sets ! (addr ! (through ! refl (fld ! refl (stop !)))) refl (tt, tt) $
    move ! (1 ∷ 0 ∷ 2 ∷ 3 ∷ []) $
    join ! $ move ! (1 ∷ []) $ fsplit ! $ move ! (1 ∷ 2 ∷ []) $ join ! $ move ! (1 ∷ 0 ∷ []) $ join ! $
    use1 𝓛 (raw (Given.pre given_back)) (Gives-goes Z 𝓛 𝓜.mem 𝓡.returns κ q inner h (⊑_trans κ κ' Y.lives bounds.0 le) b
    o n al τ said.0 said.1 are.1.1.0.1 are.1.1.1.0.1) $
    calls_at_last ! fm Given (met.deallocate d') given_back (and_then ! (get ! refl)
    (and_then ! (get ! refl) (and_then ! (get ! refl) (and_then ! (get ! refl) (no_more !))))) (λ v.
    use1 𝓛 (later (given (v ≡ vunit) (‵ (flft κ q)))) (Gives-Gives Z 𝓛 𝓜.mem 𝓡.returns κ q inner h b o n al τ v) $ await
    ! tt $ learn ! (λ e.
    lands_last ! refl (subst (λ (w : Val). T (has_ty ty_unit w) × WT w) (sym e) (tt, tt)) $ exec ! 𝓣.C 𝓣.Λ
    (env fn.locals l) (after 3 fn.body) (at_ret _ (Post x)) $
    sets ! (of_opd ! (unit_lit !)) refl (tt, tt) $ returns ! (look_at ! 0 refl) $ free_all ! refl $
    join ! $ nothing ! $ feq_i ! (List Val) (vunit ∷ []) (vunit ∷ []) refl $ nothing ! $ nothing ! $ fjoin ! $ nothing !
    $ fjoin ! $ nothing ! $ fjoin ! $ nothing ! $ fjoin ! $
    move ! (3 ∷ []) $ by ! (leaves 𝓛 En hs c (z x) vunit tt (tt, (tt, (tt, (tt, tt)))) (tt, (tt, (tt, (tt, tt))))))))))))))
