-- Flags that are looked at block by block.
use Rattle.std.proofs.Common.{◌≡◌, ◌∙◌, ap, sym, refl, ℕ, zero, suc, ◌+◌, ◌-◌, ◌<◌, ◌≤◌, Bool, true, false, All, List, length, get_or, drop, arith, length-take, length-drop}
use Rattle.std.proofs.lemmas.List.{get_or-take, get_or-drop}
use Rattle.std.specs.List.{slice_range}
use Rattle.sw_load.specs.Flags.{AreLive}

-- flags that are true up to a place, and those of the block behind it, are true up to the block's end
pub live-on : (live : List Bool) (from place end : ℕ) → end ≤ length live → AreLive live from place → All (λ (b : Bool). b ≡ true) (slice_range live place end) → AreLive live from end
live-on live from place end within before block i le lt = by (place - i) refl
  where
    by : (n : ℕ) → place - i ≡ n → get_or live i false ≡ true
    by (suc n) e = before i le (omega (arith, e))
    by zero e =
        let at : place + (i - place) ≡ i = omega (arith, e) in
        let inside : i - place < end - place = omega (arith, e, lt) in
        let long = length-take (end - place) (drop place live) in
        let rest = length-drop place live in
        ap (λ k. get_or live k false) (sym at)
        ∙ sym (get_or-drop place live (i - place) false)
        ∙ sym (get_or-take (end - place) (drop place live) (i - place) false inside)
        ∙ block (i - place) false (omega (arith, inside, long, rest, within))
