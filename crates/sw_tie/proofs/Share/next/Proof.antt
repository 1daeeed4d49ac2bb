-- `next` adds a row at the end of the chain.
use Rattle.std.proofs.Common.{◌≡◌, List, [], ◌∷◌, ◌++◌, false, refl, sym, subst, length}
use mir.Syntax.{a_type}
use mir.Val.{Val, vptr}
use mir.MapTy.{inst_fn}
use base.Logic.{SProp, ent, emp, id⊢}
use base.Fml.{ftrue, fsep, flft}
use prog.Wp.{WpFn}
use types.Kit.{‵, raw, ◌⊛◌, later, ◌$◌, ◌∵◌, !, qed, by, move, keep, split, join, fsplit, fsplit3, fjoin, fjoin3, suffices, use0, use1, await, feq_i}
use types.Run.{no_more, and_then, returns, enter}
use types.ByLocal.{alloc_all, pass_all, free_all, look_at, get, sets}
use types.Part.{agg}
use contract.Monad.{fact, fact_i}
use contract.Running.{tables}
use denote.Exit.{yes}
use denote.RattleType.{RattleType, owns}
use denote.Signature.{types_at, plain}
use denote.Builtin.{RefOf}
use denote.Steps.{nothing, opens, closes}
use denote.Param.{param, layouts}
use denote.Triple.Walked.{Stays, stay_dropped, stay_ref, walk_of, Goes-dropped, Goes-ref}
use Rattle.std.specs.contracts.snapshot.Snapshot as snapshot
use Rattle.std.proofs.raw_atomic.Walks.{proved_at, leaves}
use Rattle.sw_tie.specs.Tied.{book_owns, share_owns}
use Rattle.sw_tie.specs.contracts.Book as book
use Rattle.sw_tie.specs.contracts.Share as share
use Rattle.sw_tie.proofs.Steps as steps
use Rattle.sw_tie.proofs.Tokens.{token, ShareData, share_made}
use Rattle.sw_tie.specs.contracts.Share.next.{ended, clauses}
use Rattle.sw_tie.specs.contracts.Share.next.Key.{name as #self}
use Rattle.sw_tie.proofs.Share.next.Statement.{statement}
use Rattle.sw_tie.proofs.Share.next.Code as code

-- a book has one row more, at its end, and a share of it is made, as the contract says
pub next_spec : {M : Type 1} → statement M
next_spec 𝓤 𝓛 𝓜 𝓡 wired T L =
    let H = 𝓛.H in let 𝓣 = tables 𝓤 H 𝓜 𝓡 𝓡.env in let R : RattleType = param 0 T in let En = ended T in let c = clauses T 𝓛 𝓜.mem 𝓡.returns in
    let inst = layouts (a_type ∷ []) (T, tt) in let fn = inst_fn inst code.function in let B : RattleType = book.the_row R in let S : RattleType = share.the_row R in let N : RattleType = snapshot.the_row R in
    let hs : Stays En.signature.params En.kept = (stay_ref (0 ∷ []) tt (plain (λ _. B)), (stay_dropped (RefOf (1 ∷ []) tt (plain (λ _. N)) (λ _. tt)) yes, tt)) in
    proved_at 𝓛 En hs c 𝓜 𝓡 (Goes-ref 𝓛 3 0 tt (plain (λ _. B)), (Goes-dropped 𝓛 3 (RefOf (1 ∷ []) tt (plain (λ _. N)) (λ _. tt)) yes (λ κs x f. refl), tt)) (#self inst) fn (code.unfolded 𝓤 H 𝓜 𝓡 wired (T, tt)) (λ z are.
    let κs = z.0.0 in let qs = z.0.1 in let Post : Val → SProp 𝓤 = (walk_of 𝓛 En hs c).post z in let Run : List Val → SProp 𝓤 = λ ws. WpFn 𝓤 H 𝓣.C 𝓣.Λ fn ws Post in
    let r = z.0.3.0 in let a = r.now in let x : R.Denot = z.0.3.1.0.now.value in let u : Val = vptr r.ref_ptr.0 r.ref_ptr.1 in let w : Val = vptr z.0.3.1.0.ref_ptr.0 z.0.3.1.0.ref_ptr.1 in let Vs : List Val = u ∷ w ∷ [] in
    let a' : B.Denot = record { marker = a.marker; name = a.name; rows = a.rows ++ (x, false) ∷ [] } in let s : S.Denot = record { marker = record {}; name = a.name; number = length a.rows; value = x } in
    let OfBook : Type 0 = (a'.name ≡ a.name) × (a'.rows ≡ a.rows ++ (x, false) ∷ []) in
    let OfShare : Type 0 = (s.name ≡ a.name) × (s.number ≡ length a.rows) in
    let OfValue : Type 0 = s.value ≡ x in
    qed 𝓛 (((‵ (flft κs.0 qs.0) ⊛ ‵ (fsep (flft κs.1.0 qs.1.0) (fsep (flft κs.1.1.0 qs.1.1.0) ftrue))) ⊛ ‵ (owns (types_at En.signature.params κs) z.0.3 z.0.4)) ∷ raw ((c κs z.0.3).requires z.1) ∷ []) ∵
    split ! $ split ! $ move ! (2 ∷ []) $ fsplit ! $ fsplit3 ! $ keep ! (1 ∷ 2 ∷ 4 ∷ 5 ∷ []) $
    suffices ! (Run Vs) (subst (λ (us : List Val). ent 𝓤 (Run Vs) (Run us)) (sym (λ i. are.0.0 i ++ (are.1.0.0 i ++ []))) (id⊢ 𝓤 (Run Vs))) $
    enter ! 𝓣.C 𝓣.Λ fn Vs Post $ alloc_all ! (λ l. pass_all ! refl ((tt, tt), ((tt, tt), tt)) $
    opens ! tt B r.ref_ptr.0 r.ref_ptr.1 (λ cs. move ! (1 ∷ []) $ fsplit ! $ move ! (1 ∷ []) $
    use1 𝓛 (later (‵ (book_owns R.coded.code a.name (a.rows ++ (x, false) ∷ [])) ⊛ ‵ (share_owns R.coded.code a.name (length a.rows) x))) (steps.opens 𝓛 R.coded a.name a.rows x) $ await ! tt $ split ! $
    move ! (2 ∷ 0 ∷ []) $ fjoin ! $ move ! (2 ∷ 0 ∷ 3 ∷ 4 ∷ 5 ∷ []) $ closes ! tt B a' cs r.ref_ptr.0 r.ref_ptr.1 $
    sets ! (agg ! (no_more !)) refl (tt, tt) $ sets ! (agg ! (and_then ! (get ! refl) (no_more !))) refl (tt, (tt, tt)) $
    returns ! (look_at ! 0 refl) $ free_all ! refl $ feq_i ! (List Val) z.0.4.0 (u ∷ []) are.0.0 $ fjoin3 ! $ nothing ! $ nothing ! $ fjoin ! $ move ! (1 ∷ 0 ∷ []) $ fjoin ! $ move ! (2 ∷ []) $
    use0 𝓛 (‵ (ShareData 𝓛 R)) (share_made 𝓛 R) $ fjoin ! $ move ! (2 ∷ 3 ∷ []) $ join ! $
    use0 𝓛 (raw (fact 𝓤 OfValue)) (fact_i 𝓤 OfValue (emp 𝓤) refl) $
    use0 𝓛 (raw (fact 𝓤 OfShare)) (fact_i 𝓤 OfShare (emp 𝓤) (refl, refl)) $ join ! $
    use0 𝓛 (raw (fact 𝓤 OfBook)) (fact_i 𝓤 OfBook (emp 𝓤) (refl, refl)) $ join ! $
    keep ! (1 ∷ 3 ∷ 2 ∷ 0 ∷ []) $ by ! (leaves 𝓛 En hs c z token s (a', (tt, tt)) (tt, (tt, tt))))))
