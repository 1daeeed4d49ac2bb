use Rattle.sw_chunks.proofs.Opened.{head-opened}
use Rattle.sw_chunks.proofs.head.Head.of.Goals as goal

pub invariant_of-result : goal.invariant_of-result
invariant_of-result g c =
    head-opened c.args.attribute c.args.cuts.now c.args.rows.items c.in-Ok.cuts.items _ c.in_ok-areas.areas.items c.in_ok-owners.owners.items
    (record { attribute = c.requires.attribute; rising = c.requires.rising; few = c.requires.few; keys = c.requires.keys; rise = c.requires.rise; fit = c.tell_rows-told.ensures.fit })
    c.in-Ok.ensures.items c.tell_rows-told.ensures.told c.in_ok-areas.ensures.areas c.in_ok-owners.ensures.owners
