use Rattle.sw_lang.proofs.Parsing.Singles.{unknown}
use Rattle.sw_lang.proofs.reading.single.attr_of.Goals as goal

pub returns-in_ok-name-in-None-clause-gives : goal.returns-in_ok-name-in-None-clause-gives
returns-in_ok-name-in-None-clause-gives c =
    unknown c.args.schema.now c.args.malformed c.args.word.now c.in-Some.name.now c.in_ok-name-in-None.name c.in-Some.ensures.1 c.in-Some.ensures.0 c.in-None.ensures c.in_ok-name-in-None.ensures
