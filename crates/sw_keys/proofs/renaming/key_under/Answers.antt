use Rattle.sw_keys.proofs.renaming.key_under.Goals as goal

pub returns : goal.returns
returns c = (c.args.key, c.in-Some.new, c.in_ok-same.ensures c.if-not-same.false, c.in_ok-text.ensures, c.in-Some.ensures)
