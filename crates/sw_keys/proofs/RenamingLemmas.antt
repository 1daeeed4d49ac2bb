-- Lists that are renamed item by item, and names of which each stands once.
use Rattle.std.proofs.Common.{◌≡◌, ◌∙◌, ◌<◌, ◌≤◌, ◌+◌, ◌++◌, sym, ap, subst, ℕ, Option, List, [], ◌∷◌, length, get_or, map, take, Some, arith}
use Rattle.std.specs.List.{slice_get, AllZip}
use Rattle.std.specs.Option.{option_map}
use Rattle.std.proofs.lemmas.List.{take_all, take_more}
use Rattle.std.proofs.lemmas.Option.{get_or_from_slice_get, slice_get-get_or, slice_get-map, slice_get_within}
use Rattle.sw_spine.specs.History.{CallsBelow}
use Rattle.sw_query.specs.declared.query.Call.{Call}
use Rattle.sw_query.specs.declared.query.Call.TheVariants as call
use Rattle.sw_logs.specs.Orders.{AllFit, StandOnce}
use Rattle.sw_keys.specs.Renamings.{IsRenamed, IsRenamedCall}
use Rattle.sw_logs.specs.declared.logged.Logged.{Logged}

-- one pair more behind lists that agree item by item
pub zip_more : {A B : Type 0} (R : A → B → Type 0) (xs : List A) (ys : List B) (x : A) (y : B) → AllZip R xs ys → R x y → AllZip R (xs ++ x ∷ []) (ys ++ y ∷ [])
zip_more R [] [] x y all here = (here, tt)
zip_more R [] (b ∷ ys) x y all here = absurd all
zip_more R (a ∷ xs) [] x y all here = absurd all
zip_more R (a ∷ xs) (b ∷ ys) x y all here = (all.0, zip_more R xs ys x y all.1 here)

-- the same by the place that a walk has come to
pub zip_step : {A B : Type 0} (R : A → B → Type 0) (xs : List A) (k : ℕ) (ys new : List B) (x : A) (y : B) → slice_get xs k ≡ Some x → new ≡ ys ++ y ∷ [] → R x y → AllZip R (take k xs) ys → AllZip R (take (k + 1) xs) new
zip_step R xs k ys new x y at grown here all =
    let lt = slice_get_within xs k x at in
    let is = get_or_from_slice_get xs k x x at in
    let more = zip_more R (take k xs) ys (get_or xs k x) y all (subst (λ z. R z y) (sym is) here) in
    subst (λ l. AllZip R (take (k + 1) xs) l) (sym grown) (subst (λ l. AllZip R l (ys ++ y ∷ [])) (sym (take_more xs k x lt)) more)

-- a walk that has passed every item has renamed the whole list
pub zip_all : {A B : Type 0} (R : A → B → Type 0) (xs : List A) (k : ℕ) (ys : List B) → length xs ≤ k → AllZip R (take k xs) ys → AllZip R xs ys
zip_all R xs k ys past all = subst (λ l. AllZip R l ys) (take_all k xs past) all

-- the item at a place, and what becomes of it
pub at_map : {A B : Type 0} (v : A → B) (xs : List A) (k : ℕ) (x : A) → slice_get xs k ≡ Some x → slice_get (map v xs) k ≡ Some (v x)
at_map v xs k x at = slice_get-map v xs k ∙ ap (λ o. option_map v o) at

some_same : {X : Type 0} (x y : X) → Some x ≡ Some y → x ≡ y
some_same x y h = cc

-- where each key's place is told by the key alone, no key stands at two places
pub once_where : (names : List ℕ) (place : ℕ → Option ℕ) (n : ℕ) → length names ≤ n → ((p : ℕ) → p < n → p < length names → place (get_or names p 0) ≡ Some p) → StandOnce names
once_where names place n past all = λ p q i sp sq. some_same p q (sym (at p i sp) ∙ at q i sq)
  where
    at : (p i : ℕ) → slice_get names p ≡ Some i → place i ≡ Some p
    at p i sp =
        let lt = slice_get_within names p i sp in
        let is : get_or names p 0 ≡ i = some_same (get_or names p 0) i (sym (slice_get-get_or names p 0 lt) ∙ sp) in
        subst (λ (j : ℕ). place j ≡ Some p) is (all p (omega (arith, lt, past)) lt)

-- calls that are renamed name the attributes that they named
call_fit : (n : ℕ) (names : List ℕ) (old new : Call) → IsRenamedCall names old new → CallsBelow n old → CallsBelow n new
call_fit n names (call.Select q) new is fit = subst (λ (c : Call). CallsBelow n c) (sym is) fit
call_fit n names (call.Insert cells) new is fit = subst (λ (c : Call). CallsBelow n c) (sym is) fit
call_fit n names (call.Delete key) new is fit = subst (λ (c : Call). CallsBelow n c) (sym is.1) tt
call_fit n names (call.DeleteWhere conds) new is fit = subst (λ (c : Call). CallsBelow n c) (sym is) fit

-- calls that fit do so under other keys
pub fit_renamed : (n : ℕ) (names : List ℕ) (calls new : List Logged) → AllZip (IsRenamed names) calls new → AllFit n calls → AllFit n new
fit_renamed n names [] [] all fit = tt
fit_renamed n names [] (d ∷ ds) all fit = absurd all
fit_renamed n names (c ∷ cs) [] all fit = absurd all
fit_renamed n names (c ∷ cs) (d ∷ ds) all fit = (call_fit n names c.call d.call all.0.call_is fit.0, fit_renamed n names cs ds all.1 fit.1)
