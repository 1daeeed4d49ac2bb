use Rattle.std.proofs.Common.{[], arith}
use Rattle.sw_table.specs.declared.row.Update.TheVariants as update
use Rattle.sw_versions.specs.Pending.{all_of}
use Rattle.sw_versions.specs.Rules.{updates_in}
use Rattle.sw_versions.proofs.Batches.{handed_begins}
use Rattle.sw_versions.proofs.shelf.hand_next.Goals as goal

pub returns-then-next-len-clause-all : goal.returns-then-next-len-clause-all
returns-then-next-len-clause-all g c =
    handed_begins c.hand.result (all_of c.args.copies.now) (all_of c.hand.new.self) (updates_in c.args.booked.now) c.args.updates.now c.len-next.result (update.Insert (record { key = 0; cells = [] }))
    c.requires.begins c.requires.all c.len-next.ensures (omega (arith, c.if-next-len.true, c.len.ensures.length)) c.hand.ensures.all
