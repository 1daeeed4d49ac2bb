-- The place of a session's last entry stays as others come.
use Rattle.std.proofs.Common.{◌≡◌, ◌≢◌, inl, inr, ℕ, zero, suc, ◌+◌, ◌<◌, ◌==◌, ◌&&◌, not, Bool, true, false, List, [], ◌∷◌, Option, Some, None, drop, get_or, length, cond, refl, sym, ap, ◌∙◌, subst, arith}
use Rattle.std.specs.Prelude.{slice_get}
use Rattle.std.proofs.lemmas.Bool.{and_parts}
use Rattle.std.proofs.lemmas.Bool.Decides.{nat_tests}
use Rattle.sw_query.specs.declared.query.Call.{Call}
use Rattle.sw_spine.specs.History.{is_absent}
use Rattle.sw_spine.specs.declared.history.Entry.{Entry}
use Rattle.sw_spine.specs.declared.history.State.{State}
use Rattle.sw_engine.specs.Later.{Begin, IsLater}
use Rattle.sw_engine.specs.Own.{IsLastOwn, own}
use Rattle.sw_engine.proofs.Owned.{own_absent}

absent_at : (b : Bool) (x : Call × State) (l : List (Call × State)) (a : Bool) → cond b (x ∷ l) l ≡ [] → (l ≡ [] → a ≡ true) → (not b && a) ≡ true
absent_at true x l a h rest = absurd (cc)
absent_at false x l a h rest = rest h

-- a session without own entries is absent
absent_own : (s : ℕ) (es : List Entry) → own s es ≡ [] → is_absent s es ≡ true
absent_own s [] h = refl
absent_own s (x ∷ es) h = absent_at (x.session == s) (x.call, x.state) (own s es) (is_absent s es) h (absent_own s es)

absent_get : (s : ℕ) (es : List Entry) (p : ℕ) (e : Entry) → is_absent s es ≡ true → slice_get es p ≡ Some e → e.session ≡ s → ⊥
absent_get s [] p e h at is = absurd (cc)
absent_get s (x ∷ es) zero e h at is =
    let same : x ≡ e = cc in
    let mine : x.session ≡ s = ap (λ (y : Entry). y.session) same ∙ is in
    grind (arith, nat_tests, h, mine)
absent_get s (x ∷ es) (suc p) e h at is = absent_get s es p e (and_parts (not (x.session == s)) (is_absent s es) h).1 at is

later_session : (e f : Entry) → IsLater e f → f.session ≡ e.session
later_session e f (inl same) = ap (λ (x : Entry). x.session) same
later_session e f (inr l) = ap (λ (x : Entry). x.session) l.1

tails_at : (b : Bool) (x y : Call × State) (l m : List (Call × State)) → cond b (y ∷ m) m ≡ cond b (x ∷ l) l → m ≡ l
tails_at true x y l m h = cc
tails_at false x y l m h = h

own_tails : (s : ℕ) (e f : Entry) (es fs : List Entry) → f.session ≡ e.session → own s (f ∷ fs) ≡ own s (e ∷ es) → own s fs ≡ own s es
own_tails s e f es fs same h = tails_at (e.session == s) (e.call, e.state) (f.call, f.state) (own s es) (own s fs) (subst (λ (n : ℕ). cond (n == s) ((f.call, f.state) ∷ own s fs) (own s fs) ≡ own s (e ∷ es)) same h)

-- where a session has the same own entries, its last one stands where it stood
pub place_back : (s : ℕ) (es fs : List Entry) (r : Option ℕ) → Begin es fs → own s fs ≡ own s es → IsLastOwn s fs r → IsLastOwn s es r
place_back s es fs None begin same last = absent_own s es (sym same ∙ own_absent s fs last)
place_back s [] fs (Some p) begin same last = absurd (absent_get s fs p last.0 (absent_own s fs same) last.1 last.2)
place_back s (e ∷ es) [] (Some p) begin same last = absurd begin
place_back s (e ∷ es) (f ∷ fs) (Some zero) begin same last =
    let session = later_session e f begin.0 in
    let found : f ≡ last.0 = cc (last.1) in
    let rest = own_tails s e f es fs session same in
    (e, refl, sym session ∙ (ap (λ (x : Entry). x.session) found ∙ last.2), absent_own s es (sym rest ∙ own_absent s fs last.3))
place_back s (e ∷ es) (f ∷ fs) (Some (suc p)) begin same last =
    let next : suc p + 1 ≡ suc (p + 1) = omega arith in
    let after : is_absent s (drop (p + 1) fs) ≡ true = subst (λ (n : ℕ). is_absent s (drop n (f ∷ fs)) ≡ true) next last.3 in
    let r = place_back s es fs (Some p) begin.1 (own_tails s e f es fs (later_session e f begin.0) same) (last.0, last.1, last.2, after) in
    (r.0, r.1, r.2, subst (λ (n : ℕ). is_absent s (drop n (e ∷ es)) ≡ true) (sym next) r.3)

-- an entry of another session before others
pub absent_back : (s : ℕ) (es : List Entry) (k : ℕ) (x : Entry) → k < length es → x ≡ get_or es k x → x.session ≢ s → is_absent s (drop (k + 1) es) ≡ true → is_absent s (drop k es) ≡ true
absent_back s [] k x lt is apart h = absurd (omega (arith, lt))
absent_back s (y ∷ es) zero x lt is apart h =
    let other : y.session ≢ s = λ e. apart (ap (λ (z : Entry). z.session) is ∙ e) in
    grind (arith, nat_tests, h, other)
absent_back s (y ∷ es) (suc k) x lt is apart h =
    let next : suc k + 1 ≡ suc (k + 1) = omega arith in
    absent_back s es k x (omega (arith, lt)) is apart (subst (λ (n : ℕ). is_absent s (drop n (y ∷ es)) ≡ true) next h)
