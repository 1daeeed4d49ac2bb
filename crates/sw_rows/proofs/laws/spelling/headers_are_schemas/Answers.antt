use Rattle.sw_rows.proofs.Schemas.SchemaLaws.{header-schema}
use Rattle.sw_rows.proofs.laws.spelling.headers_are_schemas.Goals as goal

pub returns : goal.returns
returns c = header-schema
