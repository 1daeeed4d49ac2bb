use Rattle.std.proofs.Common.{rules, ℤ, zip, get_or, set, pos, arith, sym, ap, ap₂, ◌∙◌}
use Rattle.std.proofs.lemmas.Int.{to_z-of_z}
use Rattle.std.proofs.lemmas.Slice.Zip.{get_or-zip}
use mir.Syntax.{w64}
use mir.Val.{SFits}
use Rattle.sw_kernel.specs.Ripple.{origin}
use Rattle.sw_kernel.proofs.Zips.{zip-set}
use Rattle.sw_kernel.proofs.removal.move_item.Goals as goal

pub returns : goal.returns
returns c =
    let hs = c.args.head.now in let ts = c.args.tail.now in let i = c.args.to in let j = c.args.from in
    let x = get_or hs j (pos 0) in let y = get_or ts j (pos 0) in
    let fx : SFits w64 x = search rules in
    let fy : SFits w64 y = search rules in
    ap₂ (λ (u v : ℤ). zip (set hs i u) (set ts i v)) (to_z-of_z w64 x fx) (to_z-of_z w64 y fy) ∙ zip-set hs ts i x y ∙ ap (set (zip hs ts) i) (sym (get_or-zip hs ts j origin (omega arith) (omega arith)))
