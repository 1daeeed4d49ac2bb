use Rattle.std.proofs.Common.{◌≡◌, ap, sym, ◌∙◌}
use Rattle.sw_versions.specs.Known.{Shelved, wrote}
use Rattle.sw_versions.proofs.Writing.{booked_of, wrote_shelved}
use Rattle.sw_versions.proofs.shelf.Shelf.viewer.Goals as goal

pub invariant_of-self-in-Ok-2 : goal.invariant_of-self-in-Ok-2
invariant_of-self-in-Ok-2 g c =
    let s = c.self.inside in
    let booked : s.booked ≡ c.args.self.now.booked = sym (booked_of s.booked s.copies s.missed) ∙ ap (λ (v : Shelved). v.booked) c.self.view_is in
    wrote_shelved s.booked c.in-Ok.copies (c.in-Ok.ensures ∙ ap wrote (sym booked))
