-- `of` takes the box apart.
use Rattle.std.proofs.Common.{◌≡◌, List, [], ◌∷◌, ◌++◌, refl, sym, ap, ◌∙◌, subst, Some}
use mir.Syntax.{Ty, dnil, impl, tcons, tnil, ty_struct, ty_ptr, ty_unit}
use mir.Syntax as Syntax
use mathlib.Core.Path as Path'
use mir.Raw.{raw as bare}
use mir.Val.{Val, vptr, vstruct, of_list}
use base.Fraction.{full_share}
use base.Logic.{SProp, ent, emp, never, id⊢, fst∗}
use base.Fml.{ftrue, fsep, flft}
use prog.Wp.{WpFn}
use types.Logic.{sem}
use types.Kit.{‵, raw, ◌⊛◌, some, later, ◌$◌, ◌∵◌, !, qed, by, move, keep, drop, split, split3, join, fsplit, fjoin, fpick, pick, suffices, use0, use1, await, rewrite, feq_l}
use types.Run.{stop, fld, of_opd, no_more, and_then, returns, enter}
use types.ByLocal.{alloc_all, pass_all, free_all, look_at, get, get_in, sets, lands_as}
use types.Part.{agg, sub, whole}
use contract.Monad.{fact, fact_i}
use contract.BorrowLft.{◌⊑◌, ⊑_static}
use contract.Running.{tables}
use borrow.Fn.Glue
use borrow.Fn.Glue.{glue_ps}
use borrow.Fn.Impl
use borrow.Fn.Kinds as Kinds''
use borrow.Fn.Run
use denote.Exit.{no, yes}
use denote.Param
use denote.Triple.Carry
use denote.Triple.Clauses
use denote.Triple.Walked
use denote.RattleType.{RattleType, owns}
use denote.Signature.{types_at, plain}
use denote.Builtin.{RawPtr}
use denote.RawPtr.{Ptr, block_ptr, null_ptr, ptr_val, in_a_block}
use denote.Steps.{nothing, only, heard}
use denote.Param.{arg, layout}
use denote.Param.Laws.{Laws, arg_laws}
use denote.Param.NoDrop.{glues}
use denote.Struct.Tuple.{Tuple}
use denote.Triple.Spec.{triple_of}
use denote.Triple.Call.{calls_at}
use denote.Triple.Walked.{Stays, stay_dropped, walk_of, Goes-dropped}
use Rattle.core.proofs.alloc.Calls.{handle_tells}
use Rattle.core.proofs.atomic.Steps.{fm}
use Rattle.std_alloc.specs.Box.Ownership.{box_owns}
use Rattle.std_alloc.proofs.BoxSteps.Form as box
use Rattle.std_alloc.specs.contracts.boxed.Box as boxed
use Rattle.std_alloc.proofs.BoxSteps.Steps.{box_out, box_in}
use Rattle.std.proofs.raw_atomic.Walks.{proved_at, leaves}
use Rattle.std.proofs.impls.GlobalAllocator.TheImpl.Met as heap_met
use Rattle.std.specs.contracts.impls.GlobalAllocator.TheImpl as heap
use Rattle.std.specs.contracts.alloc.Global as global
use Rattle.std.proofs.alloc.Global.TheLaws as global_laws
use Rattle.sideways_c.specs.contracts.inner.Inner as inner
use Rattle.sideways_c.proofs.inner.Inner.TheLaws as inner_laws
use Rattle.sideways_c.proofs.sideways_c++inner++Inner+Destruct.drop.Kinds as Kinds'
use Rattle.sideways_c.proofs.sideways_c++inner++Inner+Destruct.drop.Met as Met''
use Rattle.sideways_c.proofs.sideways_c++inner++Inner+Destruct.drop.Reads as Reads''
use Rattle.sideways_c.proofs.sideways_c++inner++Inner+Destruct.drop.Symbol as Symbol'
use Rattle.sideways_c.proofs.Values.{both, slot_good, slot_in}
use Rattle.std_alloc.specs.contracts.boxed.Box.into_raw_with_allocator as callee
use Rattle.std_alloc.proofs.boxed.Box.into_raw_with_allocator.Met.{met}
use Rattle.sideways_c.specs.contracts.slot.Slot.of.{ended, clauses}
use Rattle.sideways_c.specs.contracts.slot.Slot.of.Key.{name as #self}
use Rattle.sideways_c.proofs.slot.Slot.of.Statement.{statement}
use Rattle.sideways_c.proofs.slot.Slot.of.Code as code

abbrev δZ : Ty
δZ = ty_struct [] (tcons (ty_struct [] (tcons ty_unit tnil)) tnil)

abbrev δX : Ty
δX = ty_struct [] (tcons (ty_struct [] (tcons ty_ptr (tcons δZ tnil))) tnil)

abbrev T : RattleType
T = arg δX no inner.the_row

abbrev A : RattleType
A = arg δZ no global.the_row

abbrev L : Laws T
L = arg_laws δX no inner.the_row inner_laws.the_row_laws refl

abbrev LA : Laws A
LA = arg_laws δZ no global.the_row global_laws.the_row_laws refl

-- the statement that the check asks of `of`
pub of_spec : {M : Type 1} → statement M
unfolding Rattle.sideways_c.proofs.Destruct++none.drop.Code.code
of_spec {M} 𝓤 𝓛 𝓜 𝓡 wired =
    let H = 𝓛.H in let 𝓣 = tables 𝓤 H 𝓜 𝓡 𝓡.env in let g = heap.ghosts in let d = heap.dict in let dd = impl ("sideways_c::Destruct++none::drop" ∷ []) (tcons δZ tnil) dnil in
    let dx = impl ("sideways_c::sideways_c++inner++Inner+Destruct::drop" ∷ []) tnil dnil in let R : RattleType = Param.param 0 T in let Z : RattleType = Param.param 1 A in
    let c = clauses 𝓛 𝓜.mem 𝓡.returns in let fn = code.function in
    let E : box.Bx = record { row = T; laws = L; al = record { row = A; laws = LA; g = g; d = d; drops = dd } } in
    let hs : Stays ended.signature.params ended.kept = (stay_dropped (plain (λ _. boxed.the_row inner.the_row global.the_row heap.ghosts)) yes, tt) in
    proved_at 𝓛 ended hs c 𝓜 𝓡 (Goes-dropped 𝓛 0 (plain (λ _. boxed.the_row inner.the_row global.the_row heap.ghosts)) yes (λ κs x f. refl), tt) #self fn (code.unfolded 𝓤 H 𝓜 𝓡 wired) (λ z are.
    let κs = z.0.0 in let v = z.0.3.0 in let a = v.alloc in let Post : Val → SProp 𝓤 = (walk_of 𝓛 ended hs c).post z in let Runs : List Val → SProp 𝓤 = λ ws. WpFn 𝓤 H 𝓣.C 𝓣.Λ fn ws Post in
    let toks = ‵ (flft [] full_share) ⊛ ‵ (flft [] full_share) ⊛ ‵ ftrue in let asked = raw ((c κs z.0.3).requires z.1) in
    qed 𝓛 ((‵ ftrue ⊛ ‵ (owns (types_at ended.signature.params κs) z.0.3 z.0.4)) ∷ asked ∷ []) ∵ split ! $ move ! (1 ∷ []) $ fsplit ! $ box_out E ! v z.0.4.0 (λ b o h e ws fits. box_in E ! v b o v.value e refl $
    keep ! (0 ∷ 1 ∷ []) $
    let w : Val = box.word E h b o in let typed = slot_good b o h fits in let k = triple_of 𝓛 (callee.signature T A g d dd dx) (callee.spec T A g d dd dx 𝓛 𝓜.mem 𝓡.returns) in
    let y : k.Ghost = ((([], ([], tt)), (full_share, (full_share, tt)), tt, (v, tt), (w ∷ [], tt)), tt) in let Pair = Tuple (RawPtr ∷ Z ∷ []) in
    fjoin ! $ nothing ! $ use0 𝓛 (raw (fact 𝓤 ([] ⊑ A.lives))) (fact_i 𝓤 ([] ⊑ A.lives) (emp 𝓤) (⊑_static [])) $ join ! $
    use0 𝓛 (raw (fact 𝓤 ([] ⊑ T.lives))) (fact_i 𝓤 ([] ⊑ T.lives) (emp 𝓤) (⊑_static [])) $ join ! $ move ! (1 ∷ 0 ∷ []) $
    nothing ! $ use0 𝓛 (‵ (flft [] full_share)) (𝓛.lfts.lft-nil full_share) $ join ! $ use0 𝓛 (‵ (flft [] full_share)) (𝓛.lfts.lft-nil full_share) $ join ! $ join ! $
    join ! $ use1 𝓛 (raw (k.pre y)) (id⊢ 𝓤 _) $
    suffices ! (Runs (w ∷ [])) (subst (λ (us : List Val). ent 𝓤 (Runs (w ∷ [])) (Runs us)) (sym (λ i. ws i ++ [])) (id⊢ 𝓤 (Runs (w ∷ [])))) $
    enter ! 𝓣.C 𝓣.Λ fn (w ∷ []) Post $ alloc_all ! (λ l. pass_all ! refl (typed, tt) $ sets ! (of_opd ! (get ! refl)) refl typed $
    calls_at ! (fm 𝓛 𝓜 𝓡) k (met 𝓤 𝓛 𝓜 𝓡 (code.calls-std_alloc::boxed::Box::into_raw_with_allocator 𝓡.env wired) T A L LA g d dd dx
    (heap_met.passed 𝓡.env (code.calls-std_heap::GlobalAllocator::allocate 𝓡.env wired) (code.calls-std_heap::GlobalAllocator::deallocate 𝓡.env wired) (code.calls-std_heap::GlobalAllocator::grow 𝓡.env wired) (code.calls-std_heap::GlobalAllocator::shrink 𝓡.env wired) M 𝓤 𝓛 𝓜 𝓡)
    (glues "sideways_c::Destruct++none::drop" 𝓡.env (code.calls-sideways_c::Destruct++none::drop 𝓡.env wired) A LA M 𝓤 𝓛 𝓜 𝓡)
    (Glue.glue_by T L record { M = M; 𝓤 = 𝓤; 𝓛 = 𝓛; 𝓜 = 𝓜; 𝓡 = 𝓡 } (Syntax.impl (List.◌∷◌ "sideways_c::sideways_c++inner++Inner+Destruct::drop" List.[]) Syntax.tnil Syntax.dnil) 𝓡.env (λ κs a. Clauses.Lasts (Kinds''.ended_of 0 Kinds'.ps Kinds'.r) tt a) (λ κs a. Clauses.lasts (Kinds''.ended_of 0 Kinds'.ps Kinds'.r) tt a) (λ κs a x ws. Walked.Fit (Kinds''.ended_of 0 Kinds'.ps Kinds'.r) (Kinds''.stays Kinds'.ps) tt a ws × Reads''.Learnt tt a x (Clauses.at_exit (Kinds''.ended_of 0 Kinds'.ps Kinds'.r) tt a ws)) (λ κs a. Carry.AllWithin 1 (κs.0, tt) (T.lives, tt) × Unit {0}) 0 tt (λ κs a h. ((h, tt), tt)) (Impl.via_longer 𝓛 (Run.Over 𝓛 𝓜 𝓡 𝓡.env) 1 (glue_ps T L) (Kinds''.r_unit) (λ κs a. Clauses.Lasts (Kinds''.ended_of 0 Kinds'.ps Kinds'.r) tt a) (λ κs a. Clauses.lasts (Kinds''.ended_of 0 Kinds'.ps Kinds'.r) tt a) (λ κs a x ws. Walked.Fit (Kinds''.ended_of 0 Kinds'.ps Kinds'.r) (Kinds''.stays Kinds'.ps) tt a ws × Reads''.Learnt tt a x (Clauses.at_exit (Kinds''.ended_of 0 Kinds'.ps Kinds'.r) tt a ws)) (λ κs a. Carry.AllWithin 1 (κs.0, tt) (T.lives, tt) × Unit {0}) (Syntax.method (Syntax.impl (List.◌∷◌ "sideways_c::sideways_c++inner++Inner+Destruct::drop" List.[]) Syntax.tnil Syntax.dnil) 0 (Param.layouts List.[] tt)) 0 tt (λ κs. tt) (λ κs a. Reads''.Asked tt a) (λ κs a p. (tt, tt)) λ κs bd within a vss qs. Impl.method_Known 0 Kinds'.ps Kinds'.r Reads''.requires Reads''.ensures Reads''.Asked Reads''.Learnt Reads''.known record { M = M; 𝓤 = 𝓤; 𝓛 = 𝓛; 𝓜 = 𝓜; 𝓡 = 𝓡 } Symbol'.name (Syntax.method (Syntax.impl (List.◌∷◌ "sideways_c::sideways_c++inner++Inner+Destruct::drop" List.[]) Syntax.tnil Syntax.dnil) 0 (Param.layouts List.[] tt)) (Symbol'.as_method 𝓡.env (code.calls-sideways_c::sideways_c++inner++Inner+Destruct::drop 𝓡.env wired) (Syntax.method (Syntax.impl (List.◌∷◌ "sideways_c::sideways_c++inner++Inner+Destruct::drop" List.[]) Syntax.tnil Syntax.dnil) 0 (Param.layouts List.[] tt)) Path'.refl) (Met''.met 𝓤 𝓛 𝓜 𝓡 (code.calls-sideways_c::sideways_c++inner++Inner+Destruct::drop 𝓡.env wired)) ((tt, qs, tt, a, vss), tt)))) y (and_then ! (get ! refl) (no_more !)) (λ u.
    use1 𝓛 (later (some (λ (r : Ptr × A.Denot). (toks ⊛ ‵ (Pair.own_val r (u ∷ []))) ⊛ some (λ (_ : (Unit {0} × (Unit {0} × Unit {0})) × Unit {0}). ‵ (fsep (fsep ftrue (fsep ftrue ftrue)) ftrue) ⊛ (raw (fact 𝓤 (r.1 ≡ a)) ⊛ ‵ (box_owns (g.dealloc_token a) R r.0 v.value)))))) (id⊢ 𝓤 _) $
    await ! tt $ pick ! (λ r. split ! $ move ! (1 ∷ []) $ pick ! (λ _. split3 ! $ drop ! $ heard ! (r.1 ≡ a) (λ ea.
    in_a_block ! r.0 (λ p. box_owns (g.dealloc_token a) R p v.value) (fst∗ 𝓤 (never 𝓤) (sem 𝓛 (g.dealloc_token a (bare (layout T)) null_ptr))) (λ b' o' e'.
    move ! (1 ∷ []) $ split ! $ move ! (1 ∷ []) $ fpick ! (λ vss. fsplit ! $ feq_l ! (λ eu. fsplit ! $ feq_l ! (λ ep. fsplit ! $ rewrite ! 0 (λ (s : A.Denot). ‵ (A.own_val s vss.1.0)) ea refl $ handle_tells E.al ! a vss.1.0 (λ h' eh fits'.
    let made = slot_good b' o' h' fits' in
    lands_as ! (ap only (eu ∙ (λ j. vstruct (of_list ((ep ∙ ap (λ (p : Ptr). ptr_val p ∷ []) e') j ++ (eh j ++ []))) ∷ []))) refl made $ sets ! (of_opd ! (get_in ! (fld ! refl (stop !)) (sub ! 0 refl (whole !)))) refl (tt, tt) $ sets ! (of_opd ! (get_in ! (fld ! refl (stop !)) (sub ! 1 refl (whole !)))) refl fits' $
    sets ! (of_opd ! (get ! refl)) refl (tt, tt) $ sets ! (agg ! (and_then ! (get ! refl) (and_then ! (get ! refl) (no_more !)))) refl made $ move ! (3 ∷ 0 ∷ []) $ slot_in ! b' o' h' a v.value $
    use0 𝓛 (raw (fact 𝓤 (Some v.value ≡ Some v.value))) (fact_i 𝓤 (Some v.value ≡ Some v.value) (emp 𝓤) refl) $ nothing ! $ nothing ! $ fjoin ! $ nothing ! $
    returns ! (look_at ! 0 refl) $ free_all ! refl $ keep ! (0 ∷ 1 ∷ 3 ∷ 2 ∷ []) $ by ! (leaves 𝓛 ended hs c z (both (vptr b' o') h') (record { at = block_ptr b' o'; alloc = a; value = Some v.value }) (tt, tt) (tt, tt))))))))))))))
