-- Values from a place on.
use Rattle.std.proofs.Common.{◌≡◌, ℕ, ◌+◌, ◌-◌, ◌<◌, ◌≤◌, ℤ, pos, List, [], ◌∷◌, ◌++◌, length, map, zip, take, drop, set, get_or, sym, ap, ap₂, ◌∙◌, arith}
use Rattle.std.proofs.lemmas.List.{get_or-drop, get_or-map, length-drop, length-map, take_more, take_more_set}
use Rattle.std.proofs.lemmas.Slice.Zip.{seconds-zip}
use Rattle.sw_kernel.specs.declared.mark.Mark.{Mark}
use Rattle.sw_kernel.specs.Arrangement.{joined}
use Rattle.sw_map.specs.Pieces.{pieces_between}
use Rattle.sw_map.proofs.Layouts.{pieces-joined}

-- one more value read
pub one-more : {A : Type 0} (f : A → ℤ) (ps : List A) (d : A) (part : List ℤ) (place at : ℕ) (v : ℤ) → at < length part → place + length part ≤ length ps → v ≡ f (get_or ps (place + at) d) → take at part ≡ take at (drop place (map f ps)) → take (at + 1) (set part at v) ≡ take (at + 1) (drop place (map f ps))
one-more f ps d part place at v lt within is so_far =
    let xs : List ℤ = map f ps in
    let long : length xs ≡ length ps = length-map ps f in
    let rest : length (drop place xs) ≡ length xs - place = length-drop place xs in
    let lt' : at < length (drop place xs) = omega (arith, long, rest, within, lt) in
    let inside : place + at < length ps = omega (arith, within, lt) in
    let there : get_or (drop place xs) at (pos 0) ≡ f (get_or ps (place + at) d) = get_or-drop place xs at (pos 0) ∙ get_or-map f ps (place + at) d (pos 0) inside in
    take_more_set part at v lt ∙ ap₂ (λ (l : List ℤ) (z : ℤ). l ++ z ∷ []) so_far (is ∙ sym there) ∙ sym (take_more (drop place xs) at (pos 0) lt')

-- the tails of a table are its second list
pub table-tails : (hs ts : List ℤ) (ms : List Mark) → length hs ≡ length ts → map (λ (p : ℤ × ℤ). p.1) (joined (pieces_between 0 (zip hs ts) ms)) ≡ ts
table-tails hs ts ms same = ap (λ (l : List (ℤ × ℤ)). map (λ p. p.1) l) (pieces-joined 0 (zip hs ts) ms) ∙ seconds-zip hs ts (sym same)
