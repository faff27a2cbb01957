-- The request is counted by the ration, and then refused or passed on to the inner allocator. Assumes `Logic`.
--     Wrapped, Held      the handle's row, and what a `&` to a ration holds
--     Asks, at_asks, asks-goes, asks-gives
--                        `refuses_next` at its call: its contract, what it is handed, and what it leaves, a `bool` and the token
use Rattle.std.proofs.Common.{◌≡◌, ℕ, ◌+◌, Bool, true, false, Option, None, List, [], ◌∷◌, Ok, Err, refl, ap, w64}
use Prim.Native.Nat.{◌<◌, ◌^◌}
use seplogic.Ra.Ura.{Ura}
use mir.Syntax.{Args, Fn, a_type, dnil, dcons}
use mir.Val.{Val, vbool, vint, vptr}
use mir.MapTy.{inst_fn}
use base.Logic.{SProp, ent, sep, ex, guard, id⊢}
use base.Fml.{Fml, Lft, Share, ftrue, fsep, flft}
use prog.Memory.{Memory, size, align, capped, up}
use prog.Routine.{Routine}
use types.Logic.{Logic, sem}
use contract.BorrowLft.{◌⊑◌, ⊑_trans}
use contract.Monad.{Fun, fact}
use contract.Running.{tables, tables_of}
use sound.WpLaws.{fm_of}
use types.Kit.{Item, ‵, raw, ◌⊛◌, some, later, given, at_ret, ⋆, ◌$◌, ◌∵◌, !, qed, by, move, keep, use0, use1, use2}
use types.Kit.{split, join, pick, learn, fsplit, fjoin, feq_i, feq_l, flt_i, check, show, await, updating}
use types.Kit.{now as at_once, done}
use types.Run.{stop, fld, addr, lit, no_more, and_then, first, branches, skips, exec, returns, returns_within, enter}
use types.ByLocal.{alloc_all, pass_all, free_all, look_at, get, through, sets, lands_as, env}
use types.Part.{agg}
use denote.Builtin.{usize, bool, RefOf}
use denote.Exit.{yes}
use denote.Memory.{hidden_shr}
use denote.Opens.{unhide}
use denote.Param.{bounded, param}
use denote.Plain.{uint_vals, uint_Tells}
use denote.RattleType.{RattleType, owns}
use denote.RawPtr.{block_ptr}
use denote.Ref.{shr_vals}
use denote.Signature.{Slot, plain, types_at}
use denote.Steps.{heard, nothing, only}
use denote.Triple.Call.{calls_at}
use denote.Triple.Entry.{alive}
use denote.Triple.Spec.{triple_of}
use denote.Triple.Statement.{Contract}
use denote.Triple.Walked.{Stays, stay_dropped, walk_of, Goes-dropped}
use Rattle.std.proofs.alloc.Calls.{Al, α, seen, token, Answer, answer_val, Answer-typed, Answer-Ok, Answer-err, Takes}
use Rattle.std.proofs.alloc.Calls.{at_takes, Answered, Takes-goes, Takes-gives, answers}
use Rattle.std.proofs.raw_atomic.Walks.{proved, leaves}
use Rattle.std.proofs.VecSteps.Shapes.{after}
use Rattle.std.specs.Allocator.{block_if_ok}
use Rattle.glob_replay.specs.contracts.ration.Ration as ration
use Rattle.glob_replay_memory.specs.contracts.rationing.Rationed as wrapper
use Rattle.glob_replay.specs.contracts.ration.Ration.refuses_next as asks
use Rattle.glob_replay.proofs.ration.Ration.refuses_next.Met as asks_met
use Rattle.glob_replay_memory.specs.contracts.rationing.RationedAllocator.allocate as f
use Rattle.glob_replay_memory.proofs.rationing.RationedAllocator.allocate.Statement.{statement}
use Rattle.glob_replay_memory.proofs.rationing.RationedAllocator.allocate.Code as code

abbrev Wrapped : RattleType → RattleType
Wrapped Y = wrapper.the_row (param 0 Y)

abbrev Held : Lft → ℕ × ℕ → Option ℕ → Fml
Held κ p refused = hidden_shr ration.the_row κ refused p.0 p.1

module _ {M : Type 1} {𝓤 : Ura M} (𝓛 : Logic 𝓤) (at_mem : Memory → SProp 𝓤) (run : Routine → Fun 𝓤) where
  open 𝓛 use {H, A}

  abbrev Asks : Contract 𝓤
  Asks = triple_of 𝓛 asks.signature (asks.spec 𝓛 at_mem run)

  module _ (κ : Lft) (q : Share) (p : ℕ × ℕ) (refused : Option ℕ) (n : ℕ) where
    abbrev at_asks : Asks.Ghost
    at_asks = (((κ, tt), (q, tt), tt, (record { ref_ptr = p; now = refused }, (n, tt)), (vptr p.0 p.1 ∷ [], (vint w64 n ∷ [], tt))), tt)

    asks-goes : n < 2 ^ 64 → ent 𝓤 (sep 𝓤 (sem 𝓛 (Held κ p refused)) (A.lft κ q)) (Asks.pre at_asks)
    asks-goes fits = qed 𝓛 (‵ (Held κ p refused) ∷ ‵ (flft κ q) ∷ []) ∵
        nothing ! $ flt_i ! n (2 ^ 64) fits $ feq_i ! (List Val) (vint w64 n ∷ []) (vint w64 n ∷ []) refl $ fjoin ! $ fjoin ! $
        move ! (1 ∷ []) $ feq_i ! (List Val) (vptr p.0 p.1 ∷ []) (vptr p.0 p.1 ∷ []) refl $ fjoin ! $ fjoin ! $
        nothing ! $ move ! (2 ∷ 0 ∷ []) $ join ! $ join ! $ nothing ! $ move ! (1 ∷ 0 ∷ []) $ join ! $ done !

    asks-gives : (v : Val) → ent 𝓤 (Asks.post at_asks v) (H.⇛ (ex 𝓤 (λ (y : Bool). guard 𝓤 (v ≡ vbool y) (A.lft κ q))))
    asks-gives v = qed 𝓛 (raw (Asks.post at_asks v) ∷ []) ∵ updating ! $
        use1 𝓛 (later (some (λ (y : Bool). ((‵ (flft κ q) ⊛ ‵ ftrue) ⊛ ‵ (bool.own_val y (v ∷ [])))
        ⊛ some (λ (ws : Unit {0} × (Unit {0} × Unit {0})). ‵ (fsep ftrue (fsep ftrue ftrue)) ⊛ given
        (refused ≡ None → y ≡ false) (‵ ftrue))))) (id⊢ 𝓤 _) $ await ! tt $ pick ! (λ y.
        split ! $ split ! $ move ! (1 ∷ []) $ feq_l ! (λ e. split ! $ at_once ! $ show !
        (λ (z : Bool). guard 𝓤 (v ≡ vbool z) (A.lft κ q)) y $ check ! (ap only e) $ keep ! (0 ∷ []) $ done !))

pub allocate_spec : {M : Type 1} → statement M
unfolding tables_of
allocate_spec 𝓤 𝓛 𝓜 𝓡 wired Y L g d d' met _ =
    let Z : Al = record { row = Y; laws = L; g = g; d = d; drops = d' } in
    let H = 𝓛.H in let 𝓣 = tables 𝓤 H 𝓜 𝓡 𝓡.env in let fm = fm_of 𝓤 H 𝓛.laws (tables_of 𝓤 H 𝓜 𝓣) in
    let inst : Args = bounded (a_type ∷ []) (Y, tt) (dcons d (dcons d' dnil)) in let fn : Fn = inst_fn inst code.function in
    let En = f.ended Y g d d' in let c = f.clauses Y g d d' 𝓛 𝓜.mem 𝓡.returns in
    let self : Slot 2 = RefOf (0 ∷ []) tt (plain (λ _. Wrapped Y)) (λ _. tt) in let word : Slot 2 = plain (λ _. usize) in
    let hs : Stays En.signature.params En.kept = (stay_dropped self yes, (stay_dropped word yes, (stay_dropped word yes, tt))) in
    let word_goes = Goes-dropped 𝓛 2 word yes (λ κs x w. refl) in
    proved 𝓛 En hs c 𝓜 𝓡 (Goes-dropped 𝓛 2 self yes (λ κs x w. refl), (word_goes, (word_goes, tt))) (f.Key.name inst) fn
    (code.unfolded 𝓤 H 𝓜 𝓡 wired (Y, tt) d d')
    (λ κs. (shr_vals, (uint_vals w64, (uint_vals w64, tt)))) (λ κs. ((λ r vs s. s.0), (uint_Tells w64, (uint_Tells w64, tt))))
    (λ κs qs bounds a τ are.
    let r = a.0 in let n = a.1.0 in let al = a.1.1.0 in let h : Y.Denot = r.now.inner in let κ : Lft =
    κs.0 in let κ' : Lft = κs.1.0 in let q : Share = qs.0 in
    let counter : ℕ × ℕ = (r.ref_ptr.0, r.ref_ptr.1 + 0) in let inner : ℕ × ℕ = (r.ref_ptr.0, r.ref_ptr.1 + up (align (α Z)) 40) in
    let z : (walk_of 𝓛 En hs c).Ghost = ((κs, qs, bounds, a, (shr_vals r, (vint w64 n ∷ [], (vint w64 al ∷ [], tt)))), τ) in
    let Post : Val → SProp 𝓤 = (walk_of 𝓛 En hs c).post z in
    let Said : Type 0 = (capped (size τ) ≡ n) × (capped (align τ) ≡ al) in
    let Asked = Asks 𝓛 𝓜.mem 𝓡.returns in let asked : Asked.Ghost = at_asks 𝓛 𝓜.mem 𝓡.returns κ q counter r.now.ration n in
    let Taken = Takes Z 𝓛 𝓜.mem 𝓡.returns in let taken : Taken.Ghost = at_takes Z 𝓛 𝓜.mem 𝓡.returns κ q inner h n al τ in
    let Tokens : SProp 𝓤 = alive 𝓛 En.signature κs qs in let Rest : Item 𝓤 = ‵ (flft κ' qs.1.0) ⊛ ‵ ftrue in
    let ends : (v : Val) (y : Answer.Denot) → ent 𝓤 (⋆ 𝓛 (‵ (Answer.own_val y (v ∷ [])) ∷
    ‵ (block_if_ok (token Z h) τ y) ∷ raw Tokens ∷ [])) (Post v) = λ v y.
    qed 𝓛 (‵ (Answer.own_val y (v ∷ [])) ∷ ‵ (block_if_ok (token Z h) τ y) ∷ raw Tokens ∷ []) ∵
    nothing ! $ nothing ! $ fjoin ! $ nothing ! $ fjoin ! $ nothing ! $ fjoin ! $ move ! (3 ∷ []) $ by !
    (leaves 𝓛 En hs c z v y (tt, (tt, (tt, tt))) (tt, (tt, (tt, tt)))) in
    qed 𝓛 ((raw Tokens ⊛ ‵ (owns (types_at En.signature.params κs) a z.0.4)) ∷ (raw (fact 𝓤 (κ' ⊑ Y.lives)) ⊛ raw (fact 𝓤 Said)) ∷ []) ∵
    move ! (1 ∷ []) $ split ! $ heard ! (κ' ⊑ Y.lives) (λ le. heard ! Said (λ said.
    split ! $ move ! (1 ∷ []) $ fsplit ! $ fsplit ! $ keep ! (1 ∷ 3 ∷ []) $ unhide ! $ fsplit ! $ fsplit ! $ move !
    (1 ∷ []) $ fsplit ! $ use1 𝓛 (‵ (seen Z κ inner h)) (id⊢ 𝓤 _) $ keep ! (4 ∷ 2 ∷ 0 ∷ []) $
    use1 𝓛 (‵ (flft κ q) ⊛ Rest) (id⊢ 𝓤 Tokens) $ split ! $ move ! (2 ∷ 0 ∷ 3 ∷ []) $
    -- [the ration; the token of κ; the inner allocator; the other token]
    enter ! _ _ _ _ _ $ alloc_all ! (λ l. pass_all ! refl (
      (tt, tt),
      ((tt, record { fits = are.1.0.1 }), ((tt, record { fits = are.1.1.0.1 }), tt)),
    ) $
    sets ! (addr ! (through ! refl (fld ! refl (stop !)))) refl (tt, tt) $
    use2 𝓛 (raw (Asked.pre asked)) (asks-goes 𝓛 𝓜.mem 𝓡.returns κ q counter r.now.ration n are.1.0.1) $
    calls_at ! fm Asked (asks_met.met 𝓤 𝓛 𝓜 𝓡 (code.calls-glob_replay::ration::Ration::refuses_next 𝓡.env wired)) asked
    (and_then ! (get ! refl) (and_then ! (get ! refl) (no_more !))) (λ u.
    use1 𝓛 (later (some (λ (y : Bool). given (u ≡ vbool y) (‵ (flft κ q)))))
    (asks-gives 𝓛 𝓜.mem 𝓡.returns κ q counter r.now.ration n u) $ await ! tt $ pick ! (λ y. learn ! (λ is. lands_as ! is refl (tt, tt) $
    first ! $ branches ! (get ! refl)
    (λ _. move ! (0 ∷ 2 ∷ []) $ join ! $ sets ! (agg ! (no_more !)) refl (tt, tt) $ sets !
    (agg ! (and_then ! (lit ! tt) (and_then ! (get ! refl) (no_more !)))) refl (Answer-typed false 0 0) $
    returns_within ! Post refl (look_at ! 0 refl) $ free_all ! refl $ nothing ! $
    use0 𝓛 (‵ (Answer.own_val (Err (record {})) (answer_val false 0 0 ∷ []))) (Answer-err 𝓛) $ keep ! (0 ∷ 1 ∷ 2 ∷ []) $
    by ! (ends (answer_val false 0 0) (Err (record {}))))
    (λ _. skips ! $ exec ! 𝓣.C 𝓣.Λ (env fn.locals l) (after 3 fn.body) (at_ret _ Post) $ sets !
    (addr ! (through ! refl (fld ! refl (stop !)))) refl (tt, tt) $ move ! (1 ∷ 0 ∷ []) $
    use2 𝓛 (raw (Taken.pre taken)) (Takes-goes Z 𝓛 𝓜.mem 𝓡.returns κ q inner h (⊑_trans κ κ' Y.lives bounds.0 le) n al τ
    said.0 said.1 are.1.0.1 are.1.1.0.1) $
    calls_at ! fm Taken (met.allocate d') taken (and_then ! (get ! refl)
    (and_then ! (get ! refl) (and_then ! (get ! refl) (no_more !)))) (λ v.
    use1 𝓛 (later (raw (Answered Z 𝓛 𝓜.mem 𝓡.returns h τ v) ⊛ ‵ (flft κ q)))
    (Takes-gives Z 𝓛 𝓜.mem 𝓡.returns κ q inner h n al τ v) $ await ! tt $ split ! $ move ! (1 ∷ 2 ∷ []) $ join ! $ move ! (1 ∷ []) $
    answers Z ! 𝓜.mem 𝓡.returns h τ v
    (λ b o e. fjoin ! $ lands_as ! e refl (Answer-typed true b o) $ returns ! (look_at ! 0 refl) $ free_all ! refl $
    use0 𝓛 (‵ (Answer.own_val (Ok (block_ptr b o)) (answer_val true b o ∷ []))) (Answer-Ok 𝓛 b o) $ by !
    (ends (answer_val true b o) (Ok (block_ptr b o))))
    (λ e. lands_as ! e refl (Answer-typed false 0 0) $ returns ! (look_at ! 0 refl) $ free_all ! refl $ nothing ! $
    use0 𝓛 (‵ (Answer.own_val (Err (record {})) (answer_val false 0 0 ∷ []))) (Answer-err 𝓛) $ by !
    (ends (answer_val false 0 0) (Err (record {})))))))))))))
