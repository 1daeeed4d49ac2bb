-- Entries stay as others come and some are settled.
use Rattle.std.proofs.Common.{◌≡◌, inl, inr, ◌++◌, ℕ, Bool, true, false, List, [], ◌∷◌, refl, sym, ap, ◌∙◌, subst}
use Rattle.std.specs.Prelude.{if◌then◌else◌}
use Rattle.std.proofs.lemmas.Bool.{and_parts}
use Rattle.sw_spine.specs.History.{entry, is_open, settled, waits}
use Rattle.sw_spine.specs.declared.history.Entry.{Entry}
use Rattle.sw_spine.specs.declared.history.State.{State}
use Rattle.sw_engine.specs.Later.{Begin, IsLater}

-- entries begin themselves
pub begin_self : (es : List Entry) → Begin es es
begin_self [] = tt
begin_self (e ∷ es) = (inl refl, begin_self es)

later_trans : (e f g : Entry) → IsLater e f → IsLater f g → IsLater e g
later_trans e f g (inl same) h = subst (λ (x : Entry). IsLater x g) same h
later_trans e f g (inr l) (inl same) = inr (subst (λ (x : Entry). (is_open e.state ≡ true) × (x ≡ entry e.session e.call x.state)) (sym same) l)
later_trans e f g (inr l) (inr m) = inr (l.0, m.1 ∙ ap (λ (x : Entry). entry x.session x.call g.state) l.1)

-- entries that begin others begin what those begin
pub begin_trans : (es fs gs : List Entry) → Begin es fs → Begin fs gs → Begin es gs
begin_trans [] fs gs a b = tt
begin_trans (e ∷ es) [] gs a b = absurd a
begin_trans (e ∷ es) (f ∷ fs) [] a b = absurd b
begin_trans (e ∷ es) (f ∷ fs) (g ∷ gs) a b = (later_trans e f g a.0 b.0, begin_trans es fs gs a.1 b.1)

-- one entry more
pub begin_push : (es : List Entry) (e : Entry) → Begin es (es ++ e ∷ [])
begin_push [] e = tt
begin_push (x ∷ es) e = (inl refl, begin_push es e)

settled_at : (b : Bool) (s : ℕ) (st : State) (x : Entry) (es ys : List Entry) → waits s x ≡ b → Begin es ys → Begin (x ∷ es) (if b then entry x.session x.call st ∷ es else x ∷ ys)
settled_at true s st x es ys is rest = (inr ((and_parts _ (is_open x.state) is).1, refl), begin_self es)
settled_at false s st x es ys is rest = (inl refl, rest)

-- one is settled
pub begin_settled : (s : ℕ) (st : State) (es : List Entry) → Begin es (settled s st es)
begin_settled s st [] = tt
begin_settled s st (x ∷ es) = settled_at (waits s x) s st x es (settled s st es) refl (begin_settled s st es)
