-- What calls leave among their session's entries.
use Rattle.std.proofs.Common.{◌≡◌, ◌∙◌, ap, refl, sym, subst, inl, inr, List, [], ◌∷◌, ◌++◌, append_assoc, Ok, Err}
use Rattle.std.proofs.lemmas.List.{append-nil}
use Rattle.sw_query.specs.declared.query.Call.{Call}
use Rattle.sw_query.specs.declared.query.Call.TheVariants as call
use Rattle.sw_spine.specs.declared.history.State.{State}
use Rattle.sw_spine.specs.declared.history.State.TheVariants as state
use Rattle.sw_engine.specs.Own.{LeavesCall, own_of}
use Rattle.sw_engine.specs.Published.{Shown}
use Rattle.sw_cli.specs.Outcomes.{AllLeft, Left, Outcome, Told}

-- what one more call leaves
more_left : (told : List Outcome) (c : Call) (t : Told) (es more : List (Call × State)) → AllLeft told es → Left c t more → AllLeft (told ++ (c, t) ∷ []) (es ++ more)
more_left [] c t es more none left = (more, [], ap (λ l. l ++ more) none ∙ sym (append-nil more), left, refl)
more_left (o ∷ told) c t es more h left = (h.0, h.1 ++ more, ap (λ l. l ++ more) h.2 ∙ append_assoc h.0 h.1 more, h.3, more_left told c t h.1 more h.4 left)

-- a call of a session leaves this
abbrev HasLeft : Call → Told → Shown → Shown → Type 0
HasLeft c t old new = (more : List (Call × State)) × (own_of new ≡ own_of old ++ more) × Left c t more

none_left : (old new : Shown) → own_of new ≡ own_of old → own_of new ≡ own_of old ++ []
none_left old new same = same ∙ sym (append-nil (own_of old))

has_left : (c : Call) (t : Told) (old new : Shown) → LeavesCall c t old new → HasLeft c t old new
has_left (call.Select q) (Ok r) old new h = ((call.Select q, state.Answered r) ∷ [], h, refl)
has_left (call.Select q) (Err e) old new (inl same) = ([], none_left old new same, inl refl)
has_left (call.Select q) (Err e) old new (inr one) = ((call.Select q, state.Void) ∷ [], one, inr (refl, refl))
has_left (call.Insert cells) (Ok r) old new h = ((call.Insert cells, state.Answered r) ∷ [], h, refl)
has_left (call.Insert cells) (Err e) old new h = ([], none_left old new h, inl refl)
has_left (call.Delete key) (Ok r) old new h = ((call.Delete key, state.Answered r) ∷ [], h, refl)
has_left (call.Delete key) (Err e) old new h = ([], none_left old new h, inl refl)
has_left (call.DeleteWhere conds) (Ok r) old new h = ((call.DeleteWhere conds, state.Answered r) ∷ [], h, refl)
has_left (call.DeleteWhere conds) (Err e) old new h = ([], none_left old new h, inl refl)

-- behind one call more, the session's own entries are what all of them left
pub left_push : (told : List Outcome) (c : Call) (t : Told) (old new : Shown) → AllLeft told (own_of old) → LeavesCall c t old new → AllLeft (told ++ (c, t) ∷ []) (own_of new)
left_push told c t old new all leaves =
    let h = has_left c t old new leaves in
    subst (λ (es : List (Call × State)). AllLeft (told ++ (c, t) ∷ []) es) (sym h.1) (more_left told c t (own_of old) h.0 all h.2)
