use Rattle.sw_rows.proofs.Schemas.SchemaLaws.{name_only, name_there}
use Rattle.sw_rows.proofs.laws.spelling.names_find_their_attributes.Goals as goal

pub returns-clause-there : goal.returns-clause-there
returns-clause-there c = λ columns i name s. name_there columns i name s.sound.distinct

pub returns-clause-only : goal.returns-clause-only
returns-clause-only c = name_only
