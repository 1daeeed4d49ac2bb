-- A head takes what it receives.
use Rattle.std.proofs.Common.{◌≡◌, ◌<◌, ◌++◌, ℕ, ℤ, List, map, length, get_or, take, refl, sym, ap, ◌∙◌, subst, All}
use Rattle.sw_table.specs.declared.row.Update.{Update}
use Rattle.sw_set.specs.Merged.{StandsForSame}
use Rattle.sw_set.specs.Shelf.{AreaState, Rises}
use Rattle.sw_chunks.specs.Cleared.{AreEach}
use Rattle.sw_chunks.specs.Heads.{CellsFit, HeadState, IsHeadLawful, IsSameButSpare}
use Rattle.sw_chunks.specs.Places.{IsSent, MayBeSent, owners_added, owners_kept, owners_of, place_by}
use Rattle.sw_chunks.specs.Routing.{MayFollow, given_by}
use Rattle.sw_chunks.proofs.Receipt.{all-within, fit-more, given-more, given-rise, may-be-sent, received}
use Rattle.sw_chunks.proofs.Kept.{kept-before, kept-more, kept-places, kept-rise}
use Rattle.sw_chunks.proofs.Standing.{lawful-same}

-- the rows of all updates, and beside each its area
abbrev pub owners_after : HeadState → List Update → List (ℕ × ℕ)
owners_after h vs = owners_of h.attribute h.cuts (given_by (h.updates ++ vs))

-- what is kept of them
abbrev pub kept_after : HeadState → List Update → List (ℕ × ℕ)
kept_after h vs = owners_kept h.attribute h.cuts (given_by (h.updates ++ vs))

-- where updates go
abbrev pub places_after : HeadState → List Update → List ℕ
places_after h vs = map (place_by h.attribute h.cuts (owners_after h vs)) vs

-- each area was sent what goes there
abbrev pub AreSent : List ℕ → List Update → List AreaState → List AreaState → Type 0
AreSent ps vs xs ys = (k : ℕ) (d e : AreaState) → k < length xs → IsSent k ps vs (get_or xs k d) (get_or ys k e)

-- what a head keeps of the owners, with those that updates add, is what it keeps after them
pub owners-are : (h : HeadState) (vs : List Update) (cs : List ℤ) (os now : List (ℕ × ℕ)) → os ≡ owners_kept h.attribute h.cuts (given_by h.updates) → cs ≡ h.cuts → now ≡ owners_added h.attribute cs os vs → now ≡ kept_after h vs
owners-are h vs cs os now was same is =
    is ∙ (ap (λ l. owners_added h.attribute l os vs) same
    ∙ (ap (λ l. owners_added h.attribute h.cuts l vs) was
    ∙ (kept-more h.attribute h.cuts (given_by h.updates) vs ∙ ap (owners_kept h.attribute h.cuts) (sym (given-more h.updates vs)))))

-- the owners that were there before
pub owners-left : (h : HeadState) (vs : List Update) (cs : List ℤ) (os now left : List (ℕ × ℕ)) (n : ℕ) → os ≡ owners_kept h.attribute h.cuts (given_by h.updates) → now ≡ owners_added h.attribute cs os vs → n ≡ length os → left ≡ take n now → left ≡ owners_kept h.attribute h.cuts (given_by h.updates)
owners-left h vs cs os now left n was is many cut = cut ∙ (ap (λ m. take m now) many ∙ (ap (take (length os)) is ∙ (kept-before h.attribute cs os vs ∙ was)))

-- after updates that may follow, the owners that a head keeps rise by key
pub owners-rising : (h : HeadState) (vs : List Update) (now : List (ℕ × ℕ)) → IsHeadLawful h → MayFollow h.attribute h.updates vs → now ≡ kept_after h vs → Rises (λ (o : ℕ × ℕ). o.0) now
owners-rising h vs now w may e = subst (Rises (λ (o : ℕ × ℕ). o.0)) (sym e) (kept-rise h.attribute h.cuts (given_by (h.updates ++ vs)) (given-rise h.updates vs h.attribute may w.came_rise))

-- the places, as a call sees them
pub places-are : (h : HeadState) (vs : List Update) (cs : List ℤ) (os : List (ℕ × ℕ)) → cs ≡ h.cuts → os ≡ kept_after h vs → map (place_by h.attribute cs os) vs ≡ places_after h vs
places-are h vs cs os same is = ap (λ l. map (place_by h.attribute l os) vs) same ∙ (ap (λ l. map (place_by h.attribute h.cuts l) vs) is ∙ kept-places h.attribute h.cuts (given_by (h.updates ++ vs)) vs)

-- each update that may follow goes to the place of an area
pub places-within : (h : HeadState) (vs : List Update) (ps : List ℕ) (xs : List AreaState) → IsHeadLawful h → MayFollow h.attribute h.updates vs → ps ≡ places_after h vs → xs ≡ h.areas → All (λ (p : ℕ). p < length xs) ps
places-within h vs ps xs w may e same =
    subst (All (λ (p : ℕ). p < length xs)) (sym e) (subst (λ (l : List AreaState). All (λ (p : ℕ). p < length l) (places_after h vs)) (sym same) (all-within h.updates vs h.attribute h.cuts h.areas w.areas_of may w.came_rise))

-- each area may receive those of the updates that go to its place
pub may-go : (h : HeadState) (vs : List Update) (ps : List ℕ) (xs : List AreaState) → IsHeadLawful h → MayFollow h.attribute h.updates vs → ps ≡ places_after h vs → xs ≡ h.areas → (k : ℕ) (d : AreaState) → k < length xs → MayBeSent k ps vs (get_or xs k d)
may-go h vs ps xs w may e same =
    subst (λ (l : List ℕ). (k : ℕ) (d : AreaState) → k < length xs → MayBeSent k l vs (get_or xs k d)) (sym e)
    (subst (λ (l : List AreaState). (k : ℕ) (d : AreaState) → k < length l → MayBeSent k (places_after h vs) vs (get_or l k d)) (sym same) (may-be-sent h.updates vs h.attribute h.cuts h.areas w.areas_of w.stands may w.came_rise))

-- ---- what stands then
pub sent-are : (h : HeadState) (vs : List Update) (ps : List ℕ) (xs ys : List AreaState) → ps ≡ places_after h vs → xs ≡ h.areas → AreSent ps vs xs ys → AreSent (places_after h vs) vs h.areas ys
sent-are h vs ps xs ys e same was = subst (λ (l : List AreaState). AreSent (places_after h vs) vs l ys) same (subst (λ (l : List ℕ). AreSent l vs xs ys) e was)

-- a head is lawful after updates that may follow, whose cells fit, were listed and sent to its areas
pub lawful-then : (h : HeadState) (vs told : List Update) (ys : List AreaState) → IsHeadLawful h → MayFollow h.attribute h.updates vs → All (λ (u : Update). CellsFit u) vs → told ≡ h.updates ++ vs → length ys ≡ length h.areas → AreSent (places_after h vs) vs h.areas ys → IsHeadLawful (record h { updates = told; areas = ys })
lawful-then h vs told ys w may fit is many was =
    let r = received h.updates vs h.attribute h.cuts h.areas ys w.areas_of w.stands may w.came_rise many was in
    subst (λ (l : List Update). IsHeadLawful (record h { updates = l; areas = ys })) (sym is)
    (record { areas_of = r.0; stands = r.1; fit = fit-more h.updates vs h.attribute may fit w.fit; came_rise = given-rise h.updates vs h.attribute may w.came_rise })

-- ---- room alone
spare-stands : (x y : AreaState) → IsSameButSpare x y → StandsForSame x y
spare-stands x y e = subst (StandsForSame x) (sym e) (record { attribute = refl; from = refl; below = refl; rows = refl; many = refl; brings = λ n all. all })

-- a head stays lawful when its areas have other room
pub lawful-room : (h : HeadState) (ys : List AreaState) → IsHeadLawful h → AreEach IsSameButSpare h.areas ys → IsHeadLawful (record h { areas = ys })
lawful-room h ys w p = lawful-same h ys (p.0, λ k d e lt. spare-stands _ _ (p.1 k d e lt)) w
