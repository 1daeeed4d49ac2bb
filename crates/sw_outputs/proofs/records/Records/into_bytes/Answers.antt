use Rattle.sw_outputs.proofs.Making.{kept}
use Rattle.sw_outputs.proofs.records.Records.into_bytes.Goals as goal

pub returns-in-Ok : goal.returns-in-Ok
returns-in-Ok c = λ bytes fields m. kept _ bytes _ m.bytes_are c.in-Ok.ensures.ok
