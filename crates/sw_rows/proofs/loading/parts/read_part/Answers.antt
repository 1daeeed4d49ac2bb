use Rattle.std.proofs.Common.{[], ap, length, ◌∙◌}
use Rattle.csv.specs.Reading.{default_config, records}
use Rattle.sw_rows.specs.Header.{kinds_of}
use Rattle.sw_rows.proofs.Loads.CutLaws.{unmarked}
use Rattle.sw_rows.proofs.Schemas.DomainLaws.{under_numbers}
use Rattle.sw_rows.proofs.Loads.PartLaws.{gives_part}
use Rattle.sw_rows.proofs.loading.parts.read_part.Goals as goal

pub returns-clause-rows : goal.returns-clause-rows
returns-clause-rows c = rw (under_numbers _ c.args.columns.now c.requires.numbers, c.of-records.ensures.all ∙ ap (records default_config) (unmarked c.args.part.now c.requires.plain)) at (c.read_rows.ensures.gives [])

pub returns-clause-part : goal.returns-clause-part
returns-clause-part c = gives_part (kinds_of c.args.columns.now) _ (length c.args.columns.now) c.read_rows.result (returns-clause-rows c) c.read_rows.ensures.width
