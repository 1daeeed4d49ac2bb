use Rattle.std.proofs.Common.{ap, length}
use Rattle.sw_query.specs.declared.refusal.Refusal.TheVariants.{NoBlank}
use Rattle.sw_set.proofs.Preparing.Trying.{no-blank}
use Rattle.sw_set.proofs.prepare.making.find_box.Goals as goal

pub returns-in_default : goal.returns-in_default
returns-in_default g c = (ap (λ v. NoBlank v (length c.args.tails.now)) c.boxes-boxes.ensures, no-blank _ _ _ c.known.ensures.apart c.requires.needed c.requires.lacks c.in_default.ensures)
