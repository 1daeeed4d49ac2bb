use Rattle.std.proofs.Common.{◌≡◌, ◌∙◌, ap, false}
use Rattle.sw_map.specs.Held.{Held}
use Rattle.sw_set.proofs.Areas.Views.{any-at}
use Rattle.sw_set.proofs.area.boxes.Boxes.cursor.Goals as goal

pub returns-in-Some : goal.returns-in-Some
returns-in-Some g c = any-at _ c.in-Some.at (λ m. (m.is_blank ≡ false) × (m.tail ≡ c.args.tail) × (c.cursor.result ≡ m.cursor)) c.in-Some.ensures.0 (λ d. ((c.in-Some.ensures.1 d).0, (c.in-Some.ensures.1 d).1, c.cursor.ensures ∙ ap (λ (m : Held). m.cursor) (c.at.ensures d)))
