use Rattle.test_engine.proofs.Readings.{read_below}
use Rattle.test_engine.proofs.running.call_of.Goals as goal

pub returns : goal.returns
returns c = read_below c.args.schema.now c.parse_known.result c.parse_known.ensures.fits
