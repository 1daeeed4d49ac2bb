use Rattle.std.proofs.Common.{ℕ, arith, true, nat_lt, length, subst, sym, ◌≡◌}
use Rattle.std.proofs.lemmas.Grind.{common_steps}
use Rattle.sw_rows.proofs.Scans.RowLaws.{table-schema}
use Rattle.sw_rows.specs.Tables.{shown_packed}
use Rattle.sw_cli.specs.Script.{AreBlocks, spelled}
use Rattle.sw_cli.specs.Sides.{FailedInTurn, source_seen}
use Rattle.sw_cli.proofs.Starts.{cuts_refuse, exceeds, rows_refuse, table_numbered}
use Rattle.sw_cli.proofs.start.read_start.Goals as goal

pub returns-clause-sound : goal.returns-clause-sound
returns-clause-sound g c =
    let t = c.in-Ok.ensures.table in
    let schema = table-schema t.0 (shown_packed c.in-Ok.found) t.1 in
    let width = c.in-Ok-read_script.ensures.width in
    record {
      wide = omega (arith, width, schema.sound.few);
      numbered = table_numbered t.0 (shown_packed c.in-Ok.found) t.1;
      some = omega (arith, width, schema.some);
      few = grind (arith, common_steps);
      blocks = subst (λ (n : ℕ). AreBlocks n c.in-Ok-read_script.read.1.items) (sym width) c.in-Ok-read_script.ensures.sound;
      lists = c.in-Ok-read_cuts.ensures.fits.lists;
      cuts = c.in-Ok-read_cuts.ensures.fits.lawful;
    }

-- where the cuts are refused
pub returns-in-Err-read_cuts-clause-spelled : goal.returns-in-Err-read_cuts-clause-spelled
returns-in-Err-read_cuts-clause-spelled g c =
    let t = source_seen (g.T.Source.left c.args.table.now) (g.T.Source.failed c.args.table.now) (g.T.Source.failed c.load_in_parts.new.source) in
    let s = source_seen (g.S.Source.left c.args.script.now) (g.S.Source.failed c.args.script.now) (g.S.Source.failed c.read_script.new.script) in
    cuts_refuse (FailedInTurn t s) c.args.options.now.limit c.args.options.now.cuts.now t.left s.left (shown_packed c.in-Ok.found) (spelled c.in-Ok-read_script.read.0 c.in-Ok-read_script.read.1.items) c.in-Err-read_cuts.e c.in-Ok.ensures.spelled c.in-Ok-read_script.ensures.spelled c.in-Err-read_cuts.ensures.why c.in-Err-read_cuts.ensures.answers

-- where the rows are more than the limit
pub returns-then-len-limit-clause-spelled : goal.returns-then-len-limit-clause-spelled
returns-then-len-limit-clause-spelled g c =
    let t = shown_packed c.in-Ok.found in
    let more : nat_lt c.args.options.now.limit (length t.rows) ≡ true = exceeds c.args.options.now.limit c.len.result (length t.rows) c.len.ensures.many c.if-len-limit.true in
    rows_refuse c.args.options.now.limit c.args.options.now.cuts.now (g.T.Source.left c.args.table.now) (g.S.Source.left c.args.script.now) t (spelled c.in-Ok-read_script.read.0 c.in-Ok-read_script.read.1.items) c.in-Ok-read_cuts.cuts c.in-Ok.ensures.spelled c.in-Ok-read_script.ensures.spelled c.in-Ok-read_cuts.ensures.answers more
