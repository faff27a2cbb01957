-- `cadmiumdove_pattern_matches_at` follows the pointer to the pattern, which its caller lends.
use Rattle.std.proofs.Common.{ℕ, List, [], ◌∷◌, ◌++◌, refl, sym, subst, w32, Bor}
use mir.Syntax.{named}
use mir.Val.{Val, vptr}
use base.Logic.{SProp, ent, emp, never, id⊢, fst∗, snd∗, ex_e}
use base.Fml.{ftrue, fsep, flft}
use prog.Wp.{WpFn}
use types.Logic.{sem}
use types.Kit.{at_ret, ‵, raw, ◌⊛◌, some, later, ◌$◌, ◌∵◌, !, qed, by, move, keep, drop, use0, use1, split, join}
use types.Kit.{fsplit, fjoin, feq_i, pick, suffices, await}
use types.Run.{stop, of_opd, addr, and_then, no_more, first, blocks, exec, returns, enter}
use types.ByLocal.{alloc_all, pass_all, free_all, look_at, get, through, sets, sets_last, lands_as, env}
use contract.Monad.{fact, fact_i}
use contract.Running.{tables}
use denote.Builtin.{u8, u32}
use denote.Exit.{yes}
use denote.Laws.{Is, shows}
use denote.Memory.{shared_of}
use denote.Opens.{hide}
use denote.Plain.{uint_vals, uint_Tells, uint_Lawful}
use denote.RattleType.{owns}
use denote.RawPtr.{Ptr, RawPtr, block_ptr, rawptr_vals, rawptr_Tells, in_a_block}
use denote.Signature.{types_at, plain, shr_slice_of}
use denote.Slice.{shr_slice_vals, shr_slice_Tells}
use denote.Steps.{nothing, heard, peeks}
use denote.Struct.Lending.{lent_at}
use denote.Triple.Call.{calls_at}
use denote.Triple.Clauses.{ensured, lasts}
use denote.Triple.Spec.{triple_of}
use denote.Triple.Walked.{Stays, stay_dropped, walk_of, Goes-dropped}
use Rattle.core.proofs.alloc.Shapes.{after}
use Rattle.core.proofs.atomic.Steps.{fm}
use Rattle.std.proofs.raw_atomic.Walks.{proved, leaves}
use Rattle.glob_c.specs.Matches.{Answers, IsPromised}
use Rattle.glob_c.specs.Slots.{PatternRow}
use Rattle.glob_c.specs.contracts.pattern.answer_of as of
use Rattle.glob_c.proofs.pattern.answer_of.Met.{met}
use Rattle.glob_c.specs.contracts.pattern.cadmiumdove_pattern_matches_at as f
use Rattle.glob_c.proofs.pattern.cadmiumdove_pattern_matches_at.Statement.{statement}
use Rattle.glob_c.proofs.pattern.cadmiumdove_pattern_matches_at.Code as code

abbrev stayed : Stays f.ended.signature.params f.ended.kept
stayed = (
  stay_dropped (plain (λ _. RawPtr)) yes,
  (
    stay_dropped (shr_slice_of (0 ∷ []) tt (plain (λ _. u8))) yes,
    (stay_dropped (plain (λ _. u32)) yes, tt),
  ),
)

pub cadmiumdove_pattern_matches_at_spec : {M : Type 1} → statement M
cadmiumdove_pattern_matches_at_spec 𝓤 𝓛 𝓜 𝓡 wired =
    let H = 𝓛.H in let 𝓣 = tables 𝓤 H 𝓜 𝓡 𝓡.env in let c = f.clauses 𝓛 𝓜.mem 𝓡.returns in let fn = code.function in
    proved 𝓛 f.ended stayed c 𝓜 𝓡 (
      Goes-dropped 𝓛 1 (plain (λ _. RawPtr)) yes (λ κs x w. refl),
      (
        Goes-dropped 𝓛 1 (shr_slice_of (0 ∷ []) tt
            (plain (λ _. u8))) yes (λ κs x w. refl),
        (Goes-dropped 𝓛 1 (plain (λ _. u32)) yes (λ κs x w. refl), tt),
      ),
    )
    f.Key.name fn (code.unfolded 𝓤 H 𝓜 𝓡 wired)
    (λ κs. (rawptr_vals, (shr_slice_vals, (uint_vals w32, tt))))
    (λ κs. (rawptr_Tells, (shr_slice_Tells (named 0) κs.0 u8, (uint_Tells w32, tt)))) (λ κs qs bounds a g are.
    let κt = κs.0 in let qt = qs.0 in let at = a.0 in let s = a.1.0 in let x = a.1.1.0 in let text = g.0 in let κ = g.1 in let q = g.2 in
    let vs : List Val × (List Val × (List Val × Unit {0})) = (rawptr_vals at, (shr_slice_vals s, (uint_vals w32 x, tt))) in
    let z : (walk_of 𝓛 f.ended stayed c).Ghost = ((κs, qs, bounds, a, vs), g) in
    let Post : Val → SProp 𝓤 = (walk_of 𝓛 f.ended stayed c).post z in let Run : Ptr → SProp 𝓤 = λ p. WpFn 𝓤 H 𝓣.C 𝓣.Λ
    fn (rawptr_vals p ++ (shr_slice_vals s ++ (uint_vals w32 x ++ []))) Post in
    qed 𝓛 (((‵ (flft κt qt) ⊛ ‵ ftrue) ⊛ ‵ (owns (types_at f.ended.signature.params κs) a vs)) ∷
    (‵ (fsep (lent_at PatternRow at text κ) (flft κ q)) ⊛ raw (fact 𝓤 (IsPromised x s.now))) ∷ []) ∵
    move ! (1 ∷ []) $ split ! $ move ! (1 ∷ []) $ heard ! (IsPromised x s.now) (λ promised. fsplit ! $
    in_a_block ! at (λ p. lent_at PatternRow p text κ) (fst∗ 𝓤 (never 𝓤) (sem 𝓛 (shared_of PatternRow text 0 0 κ)))
    (λ kb kc e. fsplit ! $ drop ! $ hide ! $
    -- [the pattern; its token; the text's token and the parameters]
    suffices ! (Run (block_ptr kb kc)) (subst (λ (p : Ptr). ent 𝓤 (Run (block_ptr kb kc)) (Run p)) (sym e)
    (id⊢ 𝓤 (Run (block_ptr kb kc)))) $
    enter ! 𝓣.C 𝓣.Λ fn (rawptr_vals (block_ptr kb kc) ++ (shr_slice_vals s ++ (uint_vals w32 x ++ []))) Post $
    alloc_all ! (λ l. pass_all ! refl (
      (tt, tt),
      (
        (tt, (tt, (record { fits = are.1.0.0.1.0 }, tt))),
        ((tt, record { fits = are.1.1.0.1 }), tt),
      ),
    ) $
    let En = env fn.locals l in first ! $ blocks ! $ sets ! (of_opd ! (get ! refl)) refl (tt, tt) $
    sets_last ! (addr ! (through ! refl (stop !))) refl (tt, tt) $ exec ! 𝓣.C 𝓣.Λ En (after 1 fn.body) (at_ret En Post) $
    sets ! (of_opd ! (get ! refl)) refl (tt, tt) $
    let r : Bor (List ℕ) = record { ref_ptr = (kb, kc); now = text } in
    let k = triple_of 𝓛 of.signature (of.spec 𝓛 𝓜.mem 𝓡.returns) in
    let y : k.Ghost = (
      (
        (κ, (κt, tt)),
        (q, (qt, tt)),
        tt,
        (r, (s, (x, tt))),
        (
          vptr kb kc ∷ [],
          (
            shr_slice_vals s,
            (uint_vals w32 x, tt),
          ),
        ),
      ),
      tt,
    ) in
    feq_i ! (List Val) (vptr kb kc ∷ []) (vptr kb kc ∷ []) refl $ fjoin ! $
    move ! (2 ∷ []) $ split ! $ split ! $ move ! (2 ∷ []) $ fsplit ! $ drop ! $
    -- [the other parameters; the text's token; nothing; the reference; its token]
    move ! (3 ∷ 0 ∷ []) $ fjoin ! $ move ! (1 ∷ 2 ∷ []) $ join ! $ move ! (2 ∷ 0 ∷ []) $ join ! $ move ! (0 ∷ 1 ∷ []) $ join ! $
    use0 𝓛 (raw (fact 𝓤 (IsPromised x s.now))) (fact_i 𝓤 (IsPromised x s.now) (emp 𝓤) promised) $ move ! (1 ∷ 0 ∷ []) $
    join ! $ use1 𝓛 (raw (k.pre y)) (id⊢ 𝓤 (k.pre y)) $
    calls_at ! (fm 𝓛 𝓜 𝓡) k (met 𝓤 𝓛 𝓜 𝓡 (code.calls-glob_c::pattern::answer_of 𝓡.env wired)) y
    (and_then ! (get ! refl) (and_then ! (get ! refl) (and_then ! (get ! refl) (no_more !)))) (λ v.
    use1 𝓛 (later (some (λ (n : ℕ). ((‵ (flft κ q) ⊛ (‵ (flft κt qt) ⊛ ‵ ftrue)) ⊛ ‵ (u32.own_val n (v ∷ []))) ⊛ raw
    (ensured 𝓛 of.ended (of.clauses 𝓛 𝓜.mem 𝓡.returns) (κ, (κt, tt)) (r, (s, (x, tt))) tt n)))) (id⊢ 𝓤 _) $ await !
    tt $ pick ! (λ n.
    split ! $ move ! (1 ∷ []) $ use1 𝓛 (raw (fact 𝓤 (Answers text s.now x n)))
    (ex_e 𝓤 _ (λ ws. snd∗ 𝓤 (sem 𝓛 (lasts of.ended (κ, (κt, tt)) (r, (s, (x, tt))) ws))
    (fact 𝓤 (Answers text s.now x n)))) $
    heard ! (Answers text s.now x n) (λ is. split ! $ split ! $
    -- [the pattern's token; the text's token; the answer]
    move ! (2 ∷ []) $ peeks ! u32 (Is u32) (shows 𝓛 u32) n (v ∷ []) (λ fits. lands_as ! refl refl ((uint_Lawful 𝓛 w32).typed n _ fits).0 $
    use0 𝓛 (raw (fact 𝓤 (Answers text s.now x n))) (fact_i 𝓤 (Answers text s.now x n) (emp 𝓤) is) $
    move ! (2 ∷ 0 ∷ []) $ join ! $ nothing ! $ nothing ! $ fjoin ! $ nothing ! $ fjoin ! $ nothing ! $ fjoin ! $
    returns ! (look_at ! 0 refl) $ free_all ! refl $ keep ! (3 ∷ 0 ∷ 2 ∷ 1 ∷ []) $ by ! (leaves 𝓛 f.ended stayed c z v
    n (tt, (tt, (tt, tt))) (tt, (tt, (tt, tt))))))))))))
