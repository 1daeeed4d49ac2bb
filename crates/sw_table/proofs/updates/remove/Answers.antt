use Rattle.std.proofs.Common.{◌==◌, not, rules}
use Rattle.std.proofs.lemmas.Fn.{filter_same}
use Rattle.sw_table.proofs.updates.remove.Goals as goal

pub returns : goal.returns
returns c = filter_same _ (λ r. not (r.key == c.args.key)) _ (λ x b f h. search rules) _ _ c.retain.ensures.filtered
