use Rattle.std.proofs.Common.{◌≡◌, ◌<◌, ◌+◌, ◌++◌, ◌∷◌, ◌∙◌, [], ap, arith, length, refl}
use Rattle.std.proofs.lemmas.Grind.{common_steps}
use Rattle.sw_cli.specs.declared.script.TheConstants.{MOST_BLOCKS}
use Rattle.sw_cli.specs.Script.{calls_in}
use Rattle.sw_cli.proofs.Blocks.{block_sound, calls_more_block}
use Rattle.sw_cli.proofs.script.Blocks.divide.Goals as goal

pub invariant_of-self-2 : goal.invariant_of-self-2
invariant_of-self-2 c =
    let closed = c.self.inside.closed.items in
    let last = c.self.inside.last.items in
    let items : c.push_reserved.new.self.items ≡ closed ++ last ∷ [] = rw (c.push_reserved.ensures.items, c.reserve.ensures.items, c.replace-calls.ensures.value) refl in
    let count : calls_in c.push_reserved.new.self.items ≡ calls_in closed + length last = ap calls_in items ∙ calls_more_block closed last in
    let before = c.self.invariant in
    let long = c.len-2.ensures in
    grind (arith, common_steps)

pub returns-clause-sound : goal.returns-clause-sound
returns-clause-sound c =
    let closed = c.self.inside.closed.items in
    let last = c.self.inside.last.items in
    let items : c.push_reserved.new.self.items ≡ closed ++ last ∷ [] = rw (c.push_reserved.ensures.items, c.reserve.ensures.items, c.replace-calls.ensures.value) refl in
    let long = c.len.ensures in
    let less = c.if-len-ge-MOST_BLOCKS.false in
    let few : length closed + 1 < MOST_BLOCKS = grind (arith, common_steps) in
    λ n s. block_sound n c.self.inside.schema closed c.push_reserved.new.self.items last c.replace-calls.new.dest.items c.args.self.now c.self.view_is items (rw c.replace-calls.ensures.after c.new.ensures.items) few s
