use Rattle.std.proofs.Common.{◌≤◌, List, length, map, arith, ap, ◌∙◌, subst}
use Rattle.std.proofs.lemmas.List.{length-append, length-map}
use Rattle.sw_table.specs.declared.row.Row.{Row}
use Rattle.sw_kernel.specs.Arrangement.{joined}
use Rattle.sw_kernel.specs.Partition.{head_of}
use Rattle.sw_kernel.specs.Replay.{inserted, shown_step}
use Rattle.sw_kernel.proofs.Moves.{load-joined}
use Rattle.sw_kernel.proofs.Once.{count-step}
use Rattle.sw_tape.specs.declared.entry.Entry.{Entry}
use Rattle.sw_tape.specs.Entries.{step_of}
use Rattle.sw_map.specs.Held.{pair_in}
use Rattle.sw_map.specs.Pieces.{stepped}
use Rattle.sw_map.proofs.pairs.Pairs.replay.Goals as goal

pub load-requires-clause-room : goal.load-requires-clause-room
load-requires-clause-room c =
    let t = c.args.self.now in let f = pair_in c.args.head c.args.tail in
    let rows : List Row = c.in-Load.rows.items in
    let room = subst (λ (e : Entry). length (joined (stepped (shown_step f (step_of e)) t).pieces) ≤ t.room) c.in-Load.is c.requires.room in
    let long = ap length (load-joined (map f rows) t.pieces) ∙ length-append (joined t.pieces) (map f rows) in
    let many = length-map rows f in
    omega (arith, room, long, many)

pub insert_row-requires-clause-room : goal.insert_row-requires-clause-room
insert_row-requires-clause-room c =
    let t = c.args.self.now in let f = pair_in c.args.head c.args.tail in
    let room = subst (λ (e : Entry). length (joined (stepped (shown_step f (step_of e)) t).pieces) ≤ t.room) c.in-Insert.is c.requires.room in
    let long = count-step head_of (inserted (f c.in-Insert.row)) t.pieces tt in
    omega (arith, room, long)
