use Rattle.std.proofs.Common.{ap, ◌∙◌}
use Rattle.csv.specs.Reading.{default_config, records}
use Rattle.sw_rows.proofs.Loads.CutLaws.{unmarked}
use Rattle.sw_rows.proofs.Loads.TextPartLaws.{part_read}
use Rattle.sw_rows.proofs.loading.text_parts.read_part.Goals as goal

pub returns-in-Ok : goal.returns-in-Ok
returns-in-Ok c = part_read c.args.columns.now c.args.part.now _ c.no_texts-texts.result _ c.no_texts-texts.ensures (c.of-records.ensures.all ∙ ap (records default_config) (unmarked c.args.part.now c.requires.plain)) c.in-Ok.ensures.gives c.in-Ok.ensures.learned c.in-Ok.ensures.width
