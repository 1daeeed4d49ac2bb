use Rattle.std.proofs.Common.{arith}
use Rattle.sw_versions.specs.Pending.{all_of}
use Rattle.sw_versions.specs.Rules.{updates_in}
use Rattle.sw_versions.proofs.Prefixes.{prefix_length, prefix_whole}
use Rattle.sw_versions.proofs.shelf.publish_all.Goals as goal

pub returns-then-publish-clause-came : goal.returns-then-publish-clause-came
returns-then-publish-clause-came g c =
    let booked = updates_in c.args.booked.now in
    let no_more = prefix_length (all_of c.args.copies.now) booked c.requires.all in
    (c.if-publish.ensures.published, prefix_whole booked c.args.updates.now c.requires.begins (omega (arith, c.if-len-many.false, c.len.ensures, no_more)))
