use Rattle.std.proofs.Common.{◌∙◌, ap}
use Rattle.sw_table.specs.Live.{live_rows}
use Rattle.sw_table.proofs.LiveLaws.{kept-more}
use Rattle.sw_versions.proofs.live.make.Goals as goal

pub returns-in_ok-insert-in-Insert-clause-ok : goal.returns-in_ok-insert-in-Insert-clause-ok
returns-in_ok-insert-in-Insert-clause-ok c =
    let t = c.args.table.now in
    rw c.in-Insert.is (ap live_rows c.in_ok-insert-in-Insert.ensures.ok ∙ kept-more t.live t.came c.in-Insert.row c.live-flags.ensures.many)
