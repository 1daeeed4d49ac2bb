-- Lists of cuts that grow by one cut after another.
use Rattle.std.proofs.Common.{◌≡◌, ◌≢◌, ◌∙◌, ap, sym, refl, subst, ℕ, ℤ, ◌<◌, Bool, true, false, ◌&&◌, cond, eqb, List, [], ◌∷◌, ◌++◌, length, int_lt, slice_set, append_assoc, append-nil, length-append, length-set, get_or-set_same, get_or-set_other, arith}
use Rattle.std.specs.List.{list_all}
use Rattle.std.proofs.lemmas.Bool.{and_parts, false≢true}
use Rattle.std.proofs.lemmas.Bool.Decides.{Decides-eqb}
use Rattle.std.proofs.lemmas.List.Folds.{list_all-append}
use Rattle.sw_lang.specs.declared.reading.cuts.TheConstants.{MOST_CUTS}
use Rattle.sw_lang.specs.Cuts.{AreCuts, Cut, CutLists, cuts_on, rises, values_on}
use Rattle.sw_lang.proofs.Parsing.Merge.{eqb-same}

-- the lists with one more cut, and with further cuts
abbrev pub with_new : CutLists → Cut → CutLists
with_new cuts c = slice_set cuts c.0 (cuts_on cuts c.0 ++ c.1 ∷ [])

-- the lists with further cuts, one after another
abbrev pub added : CutLists → List Cut → CutLists
added cuts [] = cuts
added cuts (c ∷ cs) = added (with_new cuts c) cs

-- each cut finds room, and stands above those before it
abbrev pub HasRoom : CutLists → Cut → Type 0
HasRoom cuts c = (length (cuts_on cuts c.0) < MOST_CUTS) × (list_all (λ y. int_lt y c.1) (cuts_on cuts c.0) ≡ true)

-- each of further cuts finds room, and stands above those before it, once the earlier ones are added
abbrev pub Allowed : CutLists → List Cut → Type 0
Allowed cuts [] = Unit {0}
Allowed cuts (c ∷ cs) = HasRoom cuts c × Allowed (with_new cuts c) cs

-- the cuts are on the first n attributes alone
abbrev pub AllWithin : ℕ → List Cut → Type 0
AllWithin n [] = Unit {0}
AllWithin n (c ∷ cs) = (c.0 < n) × AllWithin n cs

-- ---- the values of an attribute

on-by : (v : Bool) (cuts : CutLists) (c : Cut) (a : ℕ) → eqb c.0 a ≡ v → c.0 < length cuts → cuts_on (with_new cuts c) a ≡ cuts_on cuts a ++ cond v (c.1 ∷ []) []
on-by true cuts c a e h =
    let same : c.0 ≡ a = (Decides-eqb c.0 a).0 e in
    subst (λ b. cuts_on (with_new cuts c) b ≡ cuts_on cuts b ++ c.1 ∷ []) same (get_or-set_same cuts c.0 (cuts_on cuts c.0 ++ c.1 ∷ []) [] h)
on-by false cuts c a e h =
    let other : a ≢ c.0 = λ s. false≢true (sym e ∙ (Decides-eqb c.0 a).1 (sym s)) in
    get_or-set_other cuts c.0 a (cuts_on cuts c.0 ++ c.1 ∷ []) [] other ∙ sym (append-nil (cuts_on cuts a))

on_new : (cuts : CutLists) (c : Cut) (a : ℕ) → c.0 < length cuts → cuts_on (with_new cuts c) a ≡ cuts_on cuts a ++ values_on (c ∷ []) a
on_new cuts c a h = on-by (eqb c.0 a) cuts c a refl h

first-by : (v : Bool) (z : ℤ) (zs : List ℤ) → cond v (z ∷ []) [] ++ zs ≡ cond v (z ∷ zs) zs
first-by true z zs = refl
first-by false z zs = refl

first_on : (c : Cut) (cs : List Cut) (a : ℕ) → values_on (c ∷ []) a ++ values_on cs a ≡ values_on (c ∷ cs) a
first_on c cs a = first-by (eqb c.0 a) c.1 (values_on cs a)

-- what an attribute has with one more cut, before others
on_next : (cuts : CutLists) (c : Cut) (cs : List Cut) (a : ℕ) → c.0 < length cuts → cuts_on (with_new cuts c) a ++ values_on cs a ≡ cuts_on cuts a ++ values_on (c ∷ cs) a
on_next cuts c cs a h =
    ap (λ l. l ++ values_on cs a) (on_new cuts c a h) ∙ append_assoc (cuts_on cuts a) (values_on (c ∷ []) a) (values_on cs a) ∙ ap (λ l. cuts_on cuts a ++ l) (first_on c cs a)

-- one cut more leaves the number of lists
pub new_length : (cuts : CutLists) (c : Cut) → length (with_new cuts c) ≡ length cuts
new_length cuts c = length-set cuts c.0 (cuts_on cuts c.0 ++ c.1 ∷ [])

-- and so do further cuts
pub added_length : (cuts : CutLists) (cs : List Cut) → length (added cuts cs) ≡ length cuts
added_length cuts [] = refl
added_length cuts (c ∷ cs) = added_length (with_new cuts c) cs ∙ new_length cuts c

-- the cuts on an attribute are those before and then the further ones on it
pub added_on : (n : ℕ) (cuts : CutLists) (cs : List Cut) (a : ℕ) → length cuts ≡ n → AllWithin n cs → cuts_on (added cuts cs) a ≡ cuts_on cuts a ++ values_on cs a
added_on n cuts [] a long w = sym (append-nil (cuts_on cuts a))
added_on n cuts (c ∷ cs) a long w =
    let within : c.0 < length cuts = omega (arith, w.0) in
    added_on n (with_new cuts c) cs a (new_length cuts c ∙ long) w.1 ∙ on_next cuts c cs a within

-- ---- rising

and-both : (a b : Bool) → a ≡ true → b ≡ true → (a && b) ≡ true
and-both a b h k = rw (h, k) refl

rises_last : (zs : List ℤ) (z : ℤ) → rises zs ≡ true → list_all (λ y. int_lt y z) zs ≡ true → rises (zs ++ z ∷ []) ≡ true
rises_last [] z h k = refl
rises_last (y ∷ ys) z h k =
    let parts = and_parts (list_all (λ x. int_lt y x) ys) (rises ys) h in
    let below = and_parts (int_lt y z) (list_all (λ x. int_lt x z) ys) k in
    let all : list_all (λ x. int_lt y x) (ys ++ z ∷ []) ≡ true = list_all-append (λ x. int_lt y x) ys (z ∷ []) ∙ and-both (list_all (λ x. int_lt y x) ys) (int_lt y z && true) parts.0 (and-both (int_lt y z) true below.0 refl) in
    and-both (list_all (λ x. int_lt y x) (ys ++ z ∷ [])) (rises (ys ++ z ∷ [])) all (rises_last ys z parts.1 below.1)

rises_seam : (xs : List ℤ) (z : ℤ) (ys : List ℤ) → rises (xs ++ z ∷ ys) ≡ true → list_all (λ y. int_lt y z) xs ≡ true
rises_seam [] z ys h = refl
rises_seam (x ∷ xs) z ys h =
    let parts = and_parts (list_all (λ y. int_lt x y) (xs ++ z ∷ ys)) (rises (xs ++ z ∷ ys)) h in
    let split = and_parts (list_all (λ y. int_lt x y) xs) (list_all (λ y. int_lt x y) (z ∷ ys)) (sym (list_all-append (λ y. int_lt x y) xs (z ∷ ys)) ∙ parts.0) in
    let first = and_parts (int_lt x z) (list_all (λ y. int_lt x y) ys) split.1 in
    and-both (int_lt x z) (list_all (λ y. int_lt y z) xs) first.0 (rises_seam xs z ys parts.1)

-- ---- lawful lists

-- the cuts on each of the first n attributes rise, and are few
abbrev pub AllLawful : ℕ → CutLists → Type 0
AllLawful n cuts = (a : ℕ) → a < n → AreCuts (cuts_on cuts a)

new-lawful : (v : Bool) (values : List ℤ) (z : ℤ) → AreCuts values → (v ≡ true → (length values < MOST_CUTS) × (list_all (λ y. int_lt y z) values ≡ true)) → AreCuts (values ++ cond v (z ∷ []) [])
new-lawful true values z l h =
    let room = h refl in
    record { rise = rises_last values z l.rise room.1; few = omega (arith, room.0, length-append values (z ∷ [])) }
new-lawful false values z l h = subst AreCuts (sym (append-nil values)) l

next_lawful : (n : ℕ) (cuts : CutLists) (c : Cut) → length cuts ≡ n → c.0 < n → HasRoom cuts c → AllLawful n cuts → AllLawful n (with_new cuts c)
next_lawful n cuts c long within room l = λ a h.
    let inside : c.0 < length cuts = omega (arith, within) in
    let here : eqb c.0 a ≡ true → HasRoom cuts (a, c.1) = λ e. subst (λ b. HasRoom cuts (b, c.1)) ((Decides-eqb c.0 a).0 e) room in
    subst AreCuts (sym (on_new cuts c a inside)) (new-lawful (eqb c.0 a) (cuts_on cuts a) c.1 (l a h) here)

-- lists that are lawful stay so with further cuts that are allowed
pub added_lawful : (n : ℕ) (cuts : CutLists) (cs : List Cut) → length cuts ≡ n → AllWithin n cs → Allowed cuts cs → AllLawful n cuts → AllLawful n (added cuts cs)
added_lawful n cuts [] long w allowed l = l
added_lawful n cuts (c ∷ cs) long w allowed l =
    added_lawful n (with_new cuts c) cs (new_length cuts c ∙ long) w.1 allowed.1 (next_lawful n cuts c long w.0 allowed.0 l)

-- lists that are lawful with further cuts have room for them
abbrev pub LawfulWith : ℕ → CutLists → List Cut → Type 0
LawfulWith n cuts cs = (a : ℕ) → a < n → AreCuts (cuts_on cuts a ++ values_on cs a)

room_for : (values : List ℤ) (z : ℤ) (zs : List ℤ) → AreCuts (values ++ z ∷ zs) → (length values < MOST_CUTS) × (list_all (λ y. int_lt y z) values ≡ true)
room_for values z zs l = (omega (arith, l.few, length-append values (z ∷ zs)), rises_seam values z zs l.rise)

-- the cuts of lawful lists were allowed one after another
pub lawful_allowed : (n : ℕ) (cuts : CutLists) (cs : List Cut) → length cuts ≡ n → AllWithin n cs → LawfulWith n cuts cs → Allowed cuts cs
lawful_allowed n cuts [] long w l = tt
lawful_allowed n cuts (c ∷ cs) long w l =
    let within : c.0 < length cuts = omega (arith, w.0) in
    let here : values_on (c ∷ cs) c.0 ≡ c.1 ∷ values_on cs c.0 = rw (eqb-same c.0) refl in
    let room = room_for (cuts_on cuts c.0) c.1 (values_on cs c.0) (subst (λ v. AreCuts (cuts_on cuts c.0 ++ v)) here (l c.0 w.0)) in
    let next : LawfulWith n (with_new cuts c) cs = λ a h. subst AreCuts (sym (on_next cuts c cs a within)) (l a h) in
    (room, lawful_allowed n (with_new cuts c) cs (new_length cuts c ∙ long) w.1 next)
