use Rattle.std.proofs.Common.{rules, ◌≡◌, ◌+◌, ◌-◌, ◌≤◌, ◌++◌, ◌∷◌, length, List, take, drop, insert, ap, ap₂, ◌∙◌, arith}
use Rattle.std.specs.List.{slice_rotate_right}
use Rattle.std.proofs.lemmas.List.{take_at}
use Rattle.std.proofs.lemmas.List.Edits.{length-insert}
use Rattle.sw_kernel.specs.declared.mark.Mark.{Mark}
use Rattle.sw_map.proofs.Cracking.{turned}
use Rattle.sw_map.proofs.crack.put_two.Goals as goal

pub returns-clause-items : goal.returns-clause-items
returns-clause-items c =
    let k = c.args.places.0 in let j = c.args.places.1 in let ms = c.args.marks.now.items in
    let x = c.args.lower in let y = c.args.upper in
    let both : List Mark = take j ms ++ x ∷ y ∷ drop j ms in
    let places : (k ≤ j) × (j ≤ length ms) = search rules in
    let is : c.deref_mut.result.now ≡ both = search rules in
    let turn : c.rotate_right.new.self ≡ slice_rotate_right (take (j + 1 - k) (drop k both)) 1 = search rules in
    let len = c.put_both.new.marks.len in
    let more : len ≡ length ms + 2 = search rules in
    let one = length-insert ms j y places.1 in
    let two = length-insert (insert ms j y) k x (omega (arith, one, places.0, places.1)) in
    let long : length (insert (insert ms j y) k x) ≡ len = omega (arith, one, two, more) in
    ap (λ (l : List Mark). take len (l ++ drop (length l) c.put_both.new.marks.items))
    (ap₂ (λ (l m : List Mark). take k l ++ (m ++ drop (j + 1 - k) (drop k l))) is turn ∙ turned x y ms k j places.0 places.1) ∙
    take_at (insert (insert ms j y) k x) (drop (length (insert (insert ms j y) k x)) c.put_both.new.marks.items) len long
