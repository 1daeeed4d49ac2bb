use Rattle.std.proofs.Common.{◌∙◌, ap, length, refl}
use Rattle.sw_table.specs.Live.{live_rows}
use Rattle.sw_table.proofs.LiveLaws.{kept-fresh}
use Rattle.sw_versions.proofs.live.table_of.Goals as goal

pub returns : goal.returns
returns c = ap live_rows (c.reserve-room.ensures ∙ c.in_ok-table.ensures) ∙ kept-fresh (length c.args.opening.now.items) c.args.opening.now.items refl
