-- The ghost steps of a book. Assumes `Logic`.
use mathlib.Core.Path.{◌≡◌, refl, sym}
use mathlib.Core.List.{List, [], ◌∷◌, ◌++◌}
use mathlib.Core.Bool.{Bool, true, false}
use Prim.Native.Nat.{ℕ}
use seplogic.Ra.Ura.{Ura}
use lib.ListN.{set, length}
use base.Logic.{SProp, ent, sep, ex, emp, guard, upd, upd_i, via}
use base.Stored.{Gv, gnil, Coded}
use base.Fml.{Fml, ftrue, finv}
use types.Logic.{Logic, sem}
use types.Kit.{‵, raw, ◌⊛◌, given, later, ◌$◌, ◌∵◌, !, qed, by, move, keep, split, fjoin, fjoin3, learn, suffices, done, use1, use2, settle, frame, check, assume, show, await, updating, now, rewrite}
use types.Tokens.{name_new}
use denote.Steps.{nothing}
use Rattle.std.specs.Prelude.{Some, slice_get}
use Rattle.sw_tie.specs.Tied.{chain, row, content, contents, book_owns, share_owns}
use Rattle.sw_tie.proofs.Lists.{HasRow, contents_set, contents_append, contents_length, found}
use Rattle.sw_tie.proofs.Rows.{row_set, row_add, Fresh}

module _ {M : Type 1} {𝓤 : Ura M} (𝓛 : Logic 𝓤) where
  open 𝓛 use {H, A}

  abbrev ⟦◌⟧ : Fml → SProp 𝓤
  ⟦ P ⟧ = sem 𝓛 P

  abbrev ◌∗◌ : SProp 𝓤 → SProp 𝓤 → SProp 𝓤
  P ∗ Q = sep 𝓤 P Q

  abbrev ◌⊢◌ : SProp 𝓤 → SProp 𝓤 → Type 1
  P ⊢ Q = ent 𝓤 P Q

  infix 26 ◌⊢◌
  infixr 35 ◌∗◌
  basic : (Q : SProp 𝓤) → upd 𝓤 Q ⊢ H.⇛ Q
  basic Q = qed 𝓛 (raw (upd 𝓤 Q) ∷ []) ∵ updating ! $ nothing ! $ use1 𝓛 (later (‵ (finv ftrue))) (𝓛.invs.inv_new ftrue) $ await ! tt $
      by ! (qed 𝓛 (‵ (finv ftrue) ∷ raw (upd 𝓤 Q) ∷ []) ∵ suffices ! _ (𝓛.invs.inv_acc ftrue Q) $ frame ! $ assume ! (‵ ftrue) $ move ! (1 ∷ []) $ settle 𝓛 (emp 𝓤 ∗ Q) (raw Q) $ suffices ! _ (upd_i 𝓤 (emp 𝓤 ∗ Q)) $ move ! (1 ∷ 0 ∷ []) $ done !)

  fresh : (y : Gv) (Z : SProp 𝓤) (X : SProp 𝓤) → ((d : ℕ × ℕ) → ⟦ Fresh 𝓛 y d ⟧ ∗ X ⊢ H.⇛ Z) → X ⊢ H.⇛ Z
  fresh y Z X k = qed 𝓛 (raw X ∷ []) ∵ updating ! $ name_new ! tt gnil (λ δ. fjoin ! $ name_new ! tt y (λ n. fjoin3 ! $ by ! (k (n, δ))))

  -- the row goes to y, and the holder's half with it
  sets : (xs : List Gv) (i : ℕ) (x y : Gv) (γ : ℕ) → ⟦ chain xs γ ⟧ ∗ ⟦ row i x γ ⟧ ⊢ H.⇛ (guard 𝓤 (HasRow xs i x) (⟦ chain (set xs i y) γ ⟧ ∗ ⟦ row i y γ ⟧))
  sets xs i x y γ = via 𝓤 _ (row_set 𝓛 xs i x y γ) (basic _)

  module _ {V : Type 0} (c : Coded V) where
    abbrev Book : ℕ → List (V × Bool) → Fml
    Book γ rows = book_owns c.code γ rows

    abbrev Share : ℕ → ℕ → V → Fml
    Share γ i v = share_owns c.code γ i v

    -- a new book
    pub begins : emp 𝓤 ⊢ H.⇛ (ex 𝓤 (λ (γ : ℕ). ⟦ Book γ [] ⟧))
    unfolding book_owns
    begins = qed 𝓛 [] ∵ updating ! $ name_new ! tt gnil (λ γ. fjoin ! $ now ! $ show ! (λ (g : ℕ). ⟦ Book g [] ⟧) γ $ done !)

    -- a new row, and its share
    pub opens : (γ : ℕ) (rows : List (V × Bool)) (v : V) → ⟦ Book γ rows ⟧ ⊢ H.⇛ (⟦ Book γ (rows ++ (v, false) ∷ []) ⟧ ∗ ⟦ Share γ (length rows) v ⟧)
    unfolding book_owns share_owns
    opens γ rows v = let y : Gv = content c.code (v, false) in let xs : List Gv = contents c.code rows in
        fresh y (⟦ Book γ (rows ++ (v, false) ∷ []) ⟧ ∗ ⟦ Share γ (length rows) v ⟧) ⟦ Book γ rows ⟧ (λ d. qed 𝓛 (‵ (Fresh 𝓛 y d) ∷ ‵ (chain xs γ) ∷ []) ∵ updating ! $ move ! (1 ∷ 0 ∷ []) $
        use2 𝓛 (later (‵ (chain (xs ++ y ∷ []) γ) ⊛ ‵ (row (length xs) y γ))) (via 𝓤 _ (row_add 𝓛 xs y d γ) (basic _)) $ await ! tt $ split ! $
        rewrite ! 0 (λ (u : List Gv). ‵ (chain u γ)) (sym (contents_append c rows (v, false))) refl $
        rewrite ! 1 (λ (k : ℕ). ‵ (row k y γ)) (contents_length c rows) refl $ now ! $ frame ! $ done !)

    -- both go to w
    pub changes : (γ : ℕ) (rows : List (V × Bool)) (i : ℕ) (v w : V) → ⟦ Book γ rows ⟧ ∗ ⟦ Share γ i v ⟧ ⊢ H.⇛ (guard 𝓤 (slice_get rows i ≡ Some (v, false)) (⟦ Book γ (set rows i (w, false)) ⟧ ∗ ⟦ Share γ i w ⟧))
    unfolding book_owns share_owns
    changes γ rows i v w = let x : Gv = content c.code (v, false) in let y : Gv = content c.code (w, false) in let xs : List Gv = contents c.code rows in
        qed 𝓛 (‵ (chain xs γ) ∷ ‵ (row i x γ) ∷ []) ∵ updating ! $ use2 𝓛 (later (given (HasRow xs i x) (‵ (chain (set xs i y) γ) ⊛ ‵ (row i y γ)))) (sets xs i x y γ) $ await ! tt $ learn ! (λ has. split ! $
        rewrite ! 0 (λ (u : List Gv). ‵ (chain u γ)) (sym (contents_set c rows i (w, false))) refl $ now ! $ check ! (found c rows i v has) $ frame ! $ done !)

    -- the share is given back
    pub gives : (γ : ℕ) (rows : List (V × Bool)) (i : ℕ) (v : V) → ⟦ Book γ rows ⟧ ∗ ⟦ Share γ i v ⟧ ⊢ H.⇛ (guard 𝓤 (slice_get rows i ≡ Some (v, false)) ⟦ Book γ (set rows i (v, true)) ⟧)
    unfolding book_owns share_owns
    gives γ rows i v = let x : Gv = content c.code (v, false) in let xs : List Gv = contents c.code rows in
        qed 𝓛 (‵ (chain xs γ) ∷ ‵ (row i x γ) ∷ []) ∵ updating ! $ use2 𝓛 (later (given (HasRow xs i x) (‵ (chain (set xs i gnil) γ) ⊛ ‵ (row i gnil γ)))) (sets xs i x gnil γ) $ await ! tt $ learn ! (λ has. split ! $
        rewrite ! 0 (λ (u : List Gv). ‵ (chain u γ)) (sym (contents_set c rows i (v, true))) refl $ now ! $ check ! (found c rows i v has) $ keep ! (0 ∷ []) $ done !)
