-- `new` makes the chain, with no row yet.
use Rattle.std.proofs.Common.{◌≡◌, ℕ, [], ◌∷◌, refl}
use mir.Syntax.{a_type}
use mir.Val.{Val}
use mir.MapTy.{inst_fn}
use base.Logic.{SProp, emp}
use base.Fml.{ftrue, flft}
use types.Kit.{‵, raw, ◌⊛◌, some, later, ◌$◌, ◌∵◌, !, qed, by, keep, split, fjoin, use0, await, pick}
use types.Run.{no_more, and_then, returns, enter}
use types.ByLocal.{alloc_all, pass_all, free_all, look_at, get, sets}
use types.Part.{agg}
use contract.Monad.{fact, fact_i}
use contract.Running.{tables}
use denote.RattleType.{RattleType}
use denote.Steps.{nothing}
use denote.Param.{param, layouts}
use denote.Triple.Walked.{Stays, walk_of}
use Rattle.std.proofs.raw_atomic.Walks.{proved_at, leaves}
use Rattle.sw_tie.specs.Tied.{book_owns}
use Rattle.sw_tie.specs.contracts.Book as book
use Rattle.sw_tie.proofs.Steps as steps
use Rattle.sw_tie.proofs.Tokens.{token, BookData, book_made}
use Rattle.sw_tie.specs.contracts.Book.new.{ended, clauses}
use Rattle.sw_tie.specs.contracts.Book.new.Key.{name as #self}
use Rattle.sw_tie.proofs.Book.new.Statement.{statement}
use Rattle.sw_tie.proofs.Book.new.Code as code

-- a book that was just made has a chain of no rows, as the contract says
pub new_spec : {M : Type 1} → statement M
new_spec 𝓤 𝓛 𝓜 𝓡 wired T L =
    let H = 𝓛.H in let 𝓣 = tables 𝓤 H 𝓜 𝓡 𝓡.env in let R : RattleType = param 0 T in let En = ended T in let c = clauses T 𝓛 𝓜.mem 𝓡.returns in
    let inst = layouts (a_type ∷ []) (T, tt) in let fn = inst_fn inst code.function in
    let hs : Stays En.signature.params En.kept = tt in
    proved_at 𝓛 En hs c 𝓜 𝓡 tt (#self inst) fn (code.unfolded 𝓤 H 𝓜 𝓡 wired (T, tt)) (λ z are.
    let κs = z.0.0 in let qs = z.0.1 in let Post : Val → SProp 𝓤 = (walk_of 𝓛 En hs c).post z in
    let B : RattleType = book.the_row R in let r : ℕ → B.Denot = λ γ. record { marker = record {}; name = γ; rows = [] } in let Told : ℕ → Type 0 = λ γ. (r γ).rows ≡ [] in
    qed 𝓛 (((‵ (flft κs.0 qs.0) ⊛ ‵ ftrue) ⊛ ‵ ftrue) ∷ raw ((c κs z.0.3).requires z.1) ∷ []) ∵ split ! $ keep ! (0 ∷ []) $
    enter ! 𝓣.C 𝓣.Λ fn [] Post $ alloc_all ! (λ l. pass_all ! refl tt $
    use0 𝓛 (later (some (λ (γ : ℕ). ‵ (book_owns R.coded.code γ [])))) (steps.begins 𝓛 R.coded) $ await ! tt $ pick ! (λ γ.
    sets ! (agg ! (no_more !)) refl (tt, tt) $ sets ! (agg ! (and_then ! (get ! refl) (no_more !))) refl (tt, (tt, tt)) $
    use0 𝓛 (‵ (BookData 𝓛 R)) (book_made 𝓛 R) $ fjoin ! $ use0 𝓛 (raw (fact 𝓤 (Told γ))) (fact_i 𝓤 (Told γ) (emp 𝓤) refl) $
    returns ! (look_at ! 0 refl) $ free_all ! refl $ nothing ! $ keep ! (3 ∷ 0 ∷ 2 ∷ 1 ∷ []) $ by ! (leaves 𝓛 En hs c z token (r γ) tt tt))))
