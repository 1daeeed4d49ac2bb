-- `back_to` empties both halves of the share's row.
use Rattle.std.proofs.Common.{◌≡◌, ℕ, List, [], ◌∷◌, ◌++◌, true, false, Some, refl, sym, subst, slice_get, set}
use mir.Syntax.{a_type}
use mir.Val.{Val, vptr, vunit}
use mir.MapTy.{inst_fn}
use base.Logic.{SProp, ent, emp, id⊢}
use base.Fml.{ftrue, fsep, flft}
use prog.Wp.{WpFn}
use types.Kit.{‵, raw, ◌⊛◌, given, later, ◌$◌, ◌∵◌, !, qed, by, move, keep, drop, split, join, fsplit, fsplit3, fjoin, fjoin3, learn, suffices, use0, use2, await, rewrite, feq_i}
use types.Run.{of_opd, unit_lit, returns, enter}
use types.ByLocal.{alloc_all, pass_all, free_all, look_at, sets}
use contract.Monad.{fact, fact_i}
use contract.BorrowLft.{◌⊑◌}
use contract.Running.{tables}
use denote.Exit.{no}
use denote.RattleType.{RattleType, owns}
use denote.Signature.{types_at, plain}
use denote.Steps.{nothing, heard, opens, closes}
use denote.Param.{param, layouts}
use denote.Triple.Walked.{Stays, stay_dropped, stay_ref, walk_of, Goes-dropped, Goes-ref}
use Rattle.std.proofs.raw_atomic.Walks.{proved_at, leaves}
use Rattle.sw_tie.specs.Tied.{book_owns, share_owns}
use Rattle.sw_tie.specs.contracts.Book as book
use Rattle.sw_tie.specs.contracts.Share as share
use Rattle.sw_tie.proofs.Steps as steps
use Rattle.sw_tie.proofs.Tokens.{token, told}
use Rattle.sw_tie.specs.contracts.Share.back_to.{ended, clauses}
use Rattle.sw_tie.specs.contracts.Share.back_to.Key.{name as #self}
use Rattle.sw_tie.proofs.Share.back_to.Statement.{statement}
use Rattle.sw_tie.proofs.Share.back_to.Code as code

-- a share that comes back leaves its row given back, as the contract says
pub back_to_spec : {M : Type 1} → statement M
back_to_spec 𝓤 𝓛 𝓜 𝓡 wired T L =
    let H = 𝓛.H in let 𝓣 = tables 𝓤 H 𝓜 𝓡 𝓡.env in let R : RattleType = param 0 T in let En = ended T in let c = clauses T 𝓛 𝓜.mem 𝓡.returns in
    let inst = layouts (a_type ∷ []) (T, tt) in let fn = inst_fn inst code.function in let B : RattleType = book.the_row R in let S : RattleType = share.the_row R in
    let hs : Stays En.signature.params En.kept = (stay_dropped (plain (λ _. S)) no, (stay_ref (0 ∷ []) tt (plain (λ _. B)), tt)) in
    proved_at 𝓛 En hs c 𝓜 𝓡 (Goes-dropped 𝓛 2 (plain (λ _. S)) no (λ κs x f. refl), (Goes-ref 𝓛 2 0 tt (plain (λ _. B)), tt)) (#self inst) fn (code.unfolded 𝓤 H 𝓜 𝓡 wired (T, tt)) (λ z are.
    let κs = z.0.0 in let qs = z.0.1 in let Post : Val → SProp 𝓤 = (walk_of 𝓛 En hs c).post z in let Run : List Val → SProp 𝓤 = λ ws. WpFn 𝓤 H 𝓣.C 𝓣.Λ fn ws Post in
    let s = z.0.3.0 in let r = z.0.3.1.0 in let a = r.now in let u : Val = vptr r.ref_ptr.0 r.ref_ptr.1 in let Vs : List Val = token ∷ u ∷ [] in
    let a' : B.Denot = record { marker = a.marker; name = a.name; rows = set a.rows s.number (s.value, true) } in
    let Was : Type 0 = slice_get a.rows s.number ≡ Some (s.value, false) in
    let OfName : Type 0 = a'.name ≡ a.name in
    let OfRows : Type 0 = a'.rows ≡ set a.rows s.number (s.value, true) in
    qed 𝓛 (((‵ (flft κs.0 qs.0) ⊛ ‵ (fsep (flft κs.1.0 qs.1.0) ftrue)) ⊛ ‵ (owns (types_at En.signature.params κs) z.0.3 z.0.4)) ∷ raw (fact 𝓤 (κs.1.0 ⊑ T.lives)) ∷ raw (fact 𝓤 (s.name ≡ a.name)) ∷ []) ∵
    move ! (2 ∷ []) $ heard ! (s.name ≡ a.name) (λ same. split ! $ split ! $ move ! (2 ∷ []) $ fsplit ! $ fsplit ! $ drop ! $ move ! (1 ∷ []) $ fsplit ! $ fsplit3 ! $ keep ! (1 ∷ 2 ∷ 5 ∷ 4 ∷ 6 ∷ []) $
    suffices ! (Run Vs) (subst (λ (us : List Val). ent 𝓤 (Run Vs) (Run us)) (sym (λ i. told R z.0.4.0 are.0.0 i ++ (are.1.0.0 i ++ []))) (id⊢ 𝓤 (Run Vs))) $
    enter ! 𝓣.C 𝓣.Λ fn Vs Post $ alloc_all ! (λ l. pass_all ! refl ((tt, (tt, tt)), ((tt, tt), tt)) $
    opens ! tt B r.ref_ptr.0 r.ref_ptr.1 (λ cs. move ! (1 ∷ []) $ fsplit ! $ move ! (1 ∷ 6 ∷ []) $
    rewrite ! 1 (λ (j : ℕ). ‵ (share_owns R.coded.code j s.number s.value)) same refl $
    use2 𝓛 (later (given Was (‵ (book_owns R.coded.code a.name a'.rows)))) (steps.gives 𝓛 R.coded a.name a.rows s.number s.value) $ await ! tt $ learn ! (λ was.
    move ! (1 ∷ 0 ∷ []) $ fjoin ! $ move ! (1 ∷ 0 ∷ []) $ closes ! tt B a' cs r.ref_ptr.0 r.ref_ptr.1 $
    sets ! (of_opd ! (unit_lit !)) refl (tt, tt) $ returns ! (look_at ! 0 refl) $ free_all ! refl $
    feq_i ! (List Val) z.0.4.1.0 (u ∷ []) are.1.0.0 $ fjoin3 ! $ nothing ! $ move ! (1 ∷ 0 ∷ []) $ fjoin ! $ nothing ! $ fjoin ! $
    feq_i ! (List Val) (vunit ∷ []) (vunit ∷ []) refl $ move ! (2 ∷ 3 ∷ []) $ join ! $
    use0 𝓛 (raw (fact 𝓤 OfRows)) (fact_i 𝓤 OfRows (emp 𝓤) refl) $
    use0 𝓛 (raw (fact 𝓤 OfName)) (fact_i 𝓤 OfName (emp 𝓤) refl) $ join ! $
    use0 𝓛 (raw (fact 𝓤 Was)) (fact_i 𝓤 Was (emp 𝓤) was) $ join ! $
    keep ! (1 ∷ 3 ∷ 2 ∷ 0 ∷ []) $ by ! (leaves 𝓛 En hs c z vunit tt (tt, (a', tt)) (tt, (tt, tt))))))))
