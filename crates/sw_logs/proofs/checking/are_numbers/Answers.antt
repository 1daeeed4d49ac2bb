use Rattle.sw_logs.proofs.checking.are_numbers.Goals as goal

pub returns : goal.returns
returns c = c.are_below.ensures.0
