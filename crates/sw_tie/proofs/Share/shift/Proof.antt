-- `shift` sets both halves of the share's row.
use Rattle.std.proofs.Common.{◌≡◌, ℕ, List, [], ◌∷◌, ◌++◌, false, Some, refl, sym, subst, slice_get, set}
use mir.Syntax.{a_type}
use mir.Val.{Val, vptr, vunit}
use mir.MapTy.{inst_fn}
use base.Logic.{SProp, ent, emp, id⊢}
use base.Fml.{ftrue, fsep, flft}
use prog.Wp.{WpFn}
use types.Kit.{‵, raw, ◌⊛◌, given, later, ◌$◌, ◌∵◌, !, qed, by, move, keep, drop, split, join, fsplit, fsplit3, fjoin, fjoin3, learn, suffices, use0, use2, await, rewrite, feq_i}
use types.Run.{of_opd, unit_lit, returns, enter}
use types.ByLocal.{alloc_all, pass_all, free_all, look_at, sets}
use contract.Monad.{fact, fact_i}
use contract.BorrowLft.{◌⊑◌}
use contract.Running.{tables}
use denote.Exit.{yes}
use denote.RattleType.{RattleType, owns}
use denote.Signature.{types_at, plain}
use denote.Builtin.{RefOf}
use denote.Steps.{nothing, heard, opens, closes}
use denote.Param.{param, layouts}
use denote.Triple.Walked.{Stays, stay_dropped, stay_ref, walk_of, Goes-dropped, Goes-ref}
use Rattle.std.specs.contracts.snapshot.Snapshot as snapshot
use Rattle.std.proofs.raw_atomic.Walks.{proved_at, leaves}
use Rattle.sw_tie.specs.Tied.{book_owns, share_owns}
use Rattle.sw_tie.specs.contracts.Book as book
use Rattle.sw_tie.specs.contracts.Share as share
use Rattle.sw_tie.proofs.Steps as steps
use Rattle.sw_tie.specs.contracts.Share.shift.{ended, clauses}
use Rattle.sw_tie.specs.contracts.Share.shift.Key.{name as #self}
use Rattle.sw_tie.proofs.Share.shift.Statement.{statement}
use Rattle.sw_tie.proofs.Share.shift.Code as code

-- a share and its row go to one value, and no other row changes, as the contract says
pub shift_spec : {M : Type 1} → statement M
shift_spec 𝓤 𝓛 𝓜 𝓡 wired T L =
    let H = 𝓛.H in let 𝓣 = tables 𝓤 H 𝓜 𝓡 𝓡.env in let R : RattleType = param 0 T in let En = ended T in let c = clauses T 𝓛 𝓜.mem 𝓡.returns in
    let inst = layouts (a_type ∷ []) (T, tt) in let fn = inst_fn inst code.function in let B : RattleType = book.the_row R in let S : RattleType = share.the_row R in let N : RattleType = snapshot.the_row R in
    let hs : Stays En.signature.params En.kept = (stay_ref (0 ∷ []) tt (plain (λ _. S)), (stay_ref (1 ∷ []) tt (plain (λ _. B)), (stay_dropped (RefOf (2 ∷ []) tt (plain (λ _. N)) (λ _. tt)) yes, tt))) in
    proved_at 𝓛 En hs c 𝓜 𝓡 (Goes-ref 𝓛 4 0 tt (plain (λ _. S)), (Goes-ref 𝓛 4 1 tt (plain (λ _. B)), (Goes-dropped 𝓛 4 (RefOf (2 ∷ []) tt (plain (λ _. N)) (λ _. tt)) yes (λ κs x f. refl), tt))) (#self inst) fn (code.unfolded 𝓤 H 𝓜 𝓡 wired (T, tt)) (λ z are.
    let κs = z.0.0 in let qs = z.0.1 in let Post : Val → SProp 𝓤 = (walk_of 𝓛 En hs c).post z in let Run : List Val → SProp 𝓤 = λ ws. WpFn 𝓤 H 𝓣.C 𝓣.Λ fn ws Post in
    let p = z.0.3.0 in let s = p.now in let r = z.0.3.1.0 in let a = r.now in let n = z.0.3.1.1.0 in let x : R.Denot = n.now.value in
    let u : Val = vptr p.ref_ptr.0 p.ref_ptr.1 in let v : Val = vptr r.ref_ptr.0 r.ref_ptr.1 in let w : Val = vptr n.ref_ptr.0 n.ref_ptr.1 in let Vs : List Val = u ∷ v ∷ w ∷ [] in
    let a' : B.Denot = record { marker = a.marker; name = a.name; rows = set a.rows s.number (x, false) } in let s' : S.Denot = record { marker = s.marker; name = s.name; number = s.number; value = x } in
    let Was : Type 0 = slice_get a.rows s.number ≡ Some (s.value, false) in
    let OfName : Type 0 = (a'.name ≡ a.name) × (s'.name ≡ s.name) in
    let OfRows : Type 0 = a'.rows ≡ set a.rows s.number (x, false) in
    let OfShare : Type 0 = (s'.number ≡ s.number) × (s'.value ≡ x) in
    qed 𝓛 (((‵ (flft κs.0 qs.0) ⊛ ‵ (flft κs.1.0 qs.1.0) ⊛ ‵ (fsep (flft κs.1.1.0 qs.1.1.0) (fsep (flft κs.1.1.1.0 qs.1.1.1.0) ftrue))) ⊛ ‵ (owns (types_at En.signature.params κs) z.0.3 z.0.4)) ∷ raw (fact 𝓤 (κs.1.1.1.0 ⊑ T.lives)) ∷ raw (fact 𝓤 (s.name ≡ a.name)) ∷ []) ∵
    move ! (2 ∷ []) $ heard ! (s.name ≡ a.name) (λ same. split ! $ split ! $ move ! (1 ∷ []) $ split ! $ move ! (3 ∷ []) $ fsplit ! $ fsplit3 ! $ drop ! $ move ! (2 ∷ []) $ fsplit ! $ fsplit3 ! $ drop ! $ keep ! (3 ∷ 4 ∷ 7 ∷ 0 ∷ 1 ∷ 5 ∷ 6 ∷ []) $
    suffices ! (Run Vs) (subst (λ (us : List Val). ent 𝓤 (Run Vs) (Run us)) (sym (λ i. are.0.0 i ++ (are.1.0.0 i ++ (are.1.1.0.0 i ++ [])))) (id⊢ 𝓤 (Run Vs))) $
    enter ! 𝓣.C 𝓣.Λ fn Vs Post $ alloc_all ! (λ l. pass_all ! refl ((tt, tt), ((tt, tt), ((tt, tt), tt))) $
    opens ! tt S p.ref_ptr.0 p.ref_ptr.1 (λ cs. move ! (5 ∷ 6 ∷ 7 ∷ []) $ opens ! tt B r.ref_ptr.0 r.ref_ptr.1 (λ ds. move ! (1 ∷ []) $ fsplit ! $ move ! (7 ∷ []) $ fsplit ! $ move ! (3 ∷ 1 ∷ []) $
    rewrite ! 1 (λ (j : ℕ). ‵ (share_owns R.coded.code j s.number s.value)) same refl $
    use2 𝓛 (later (given Was (‵ (book_owns R.coded.code a.name a'.rows) ⊛ ‵ (share_owns R.coded.code a.name s.number x)))) (steps.changes 𝓛 R.coded a.name a.rows s.number s.value x) $ await ! tt $ learn ! (λ was. split ! $
    rewrite ! 1 (λ (j : ℕ). ‵ (share_owns R.coded.code j s.number x)) (sym same) refl $
    move ! (2 ∷ 1 ∷ []) $ fjoin ! $ move ! (2 ∷ 1 ∷ []) $ fjoin ! $ move ! (2 ∷ 0 ∷ 3 ∷ 4 ∷ 5 ∷ []) $ closes ! tt B a' ds r.ref_ptr.0 r.ref_ptr.1 $ move ! (4 ∷ 3 ∷ 5 ∷ 6 ∷ 7 ∷ []) $ closes ! tt S s' cs p.ref_ptr.0 p.ref_ptr.1 $
    sets ! (of_opd ! (unit_lit !)) refl (tt, tt) $ returns ! (look_at ! 0 refl) $ free_all ! refl $
    feq_i ! (List Val) z.0.4.0 (u ∷ []) are.0.0 $ fjoin3 ! $ move ! (2 ∷ 3 ∷ []) $ feq_i ! (List Val) z.0.4.1.0 (v ∷ []) are.1.0.0 $ fjoin3 ! $ nothing ! $ nothing ! $ fjoin ! $ move ! (1 ∷ 0 ∷ []) $ fjoin ! $ move ! (1 ∷ 0 ∷ []) $ fjoin ! $
    feq_i ! (List Val) (vunit ∷ []) (vunit ∷ []) refl $ move ! (3 ∷ 4 ∷ []) $ join ! $ move ! (3 ∷ 0 ∷ []) $ join ! $
    use0 𝓛 (raw (fact 𝓤 OfShare)) (fact_i 𝓤 OfShare (emp 𝓤) (refl, refl)) $
    use0 𝓛 (raw (fact 𝓤 OfRows)) (fact_i 𝓤 OfRows (emp 𝓤) refl) $ join ! $
    use0 𝓛 (raw (fact 𝓤 OfName)) (fact_i 𝓤 OfName (emp 𝓤) (refl, refl)) $ join ! $
    use0 𝓛 (raw (fact 𝓤 Was)) (fact_i 𝓤 Was (emp 𝓤) was) $ join ! $
    keep ! (1 ∷ 3 ∷ 2 ∷ 0 ∷ []) $ by ! (leaves 𝓛 En hs c z vunit tt (s', (a', (tt, tt))) (tt, (tt, (tt, tt))))))))))
