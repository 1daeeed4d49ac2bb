use Rattle.std.proofs.Common.{rules, ◌≡◌, ◌++◌, ◌∷◌, ◌+◌, ◌<◌, [], arith, length, OnOk}
use Rattle.std.proofs.lemmas.Grind.{common_steps}
use Rattle.sw_cli.specs.declared.script.TheConstants.{MOST_CALLS}
use Rattle.sw_cli.specs.Script.{calls_in}
use Rattle.sw_cli.proofs.Blocks.{added_sound}
use Rattle.sw_cli.proofs.script.Blocks.add.Goals as goal

pub returns-clause-sound : goal.returns-clause-sound
returns-clause-sound c =
    let closed = c.self.inside.closed.items in
    let last = c.self.inside.last.items in
    let before = c.self.invariant in
    let long = c.len.ensures in
    let less = c.if-self-len-ge-MOST_CALLS.false in
    let few : calls_in closed + length last < MOST_CALLS = grind (arith, common_steps) in
    let more : OnOk c.match-push.result (c.push.new.self.items ≡ last ++ c.in-Some.call ∷ []) = search rules in
    λ n below s. added_sound n c.self.inside.schema closed last c.push.new.self.items c.args.self.now c.in-Some.call c.match-push.result c.self.view_is more few (search rules) s
