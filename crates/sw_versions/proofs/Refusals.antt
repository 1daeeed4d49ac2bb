-- Why a viewer answers no query.
use Rattle.std.proofs.Common.{◌≡◌}
use Rattle.sw_query.specs.declared.query.Want.{Want}
use Rattle.sw_query.specs.declared.refusal.Refusal.{Refusal}
use Rattle.sw_query.specs.declared.refusal.Refusal.TheVariants as refusal
use Rattle.sw_versions.specs.Known.{Known}
use Rattle.sw_versions.specs.Refused.{IsBehind, RefusesAnswer, RefusesLook}

-- the copy that it came to lacks updates
pub behind_look : (want : Want) (e : Refusal) → IsBehind e → RefusesLook want e
behind_look want (refusal.Ahead s t) why = why
behind_look want refusal.NoMemory why = absurd why
behind_look want (refusal.TooMany _) why = absurd why
behind_look want (refusal.BadTable _ _) why = absurd why
behind_look want (refusal.BadLine _ _) why = absurd why
behind_look want (refusal.UnknownAttribute _) why = absurd why
behind_look want (refusal.NoBlank _ _) why = absurd why
behind_look want (refusal.Short _ _ _) why = absurd why
behind_look want (refusal.Contended _ _) why = absurd why
behind_look want (refusal.SharesOut _ _) why = absurd why
behind_look want (refusal.HistoryFull _) why = absurd why
behind_look want (refusal.NotLegal _) why = absurd why
behind_look want refusal.Input why = absurd why
behind_look want refusal.Output why = absurd why

-- it came to a copy, and has seen and was told what it had
pub look_answer : (want : Want) (old new : Known) (e : Refusal) → RefusesLook want e → new ≡ old → RefusesAnswer want old new e
look_answer want old new (refusal.Ahead s t) why same = (why, same)
look_answer want old new refusal.NoMemory why same = (why, same)
look_answer want old new (refusal.TooMany _) why same = absurd why
look_answer want old new (refusal.BadTable _ _) why same = absurd why
look_answer want old new (refusal.BadLine _ _) why same = absurd why
look_answer want old new (refusal.UnknownAttribute _) why same = absurd why
look_answer want old new (refusal.NoBlank _ _) why same = absurd why
look_answer want old new (refusal.Short _ _ _) why same = absurd why
look_answer want old new (refusal.Contended _ _) why same = absurd why
look_answer want old new (refusal.SharesOut _ _) why same = absurd why
look_answer want old new (refusal.HistoryFull _) why same = absurd why
look_answer want old new (refusal.NotLegal _) why same = absurd why
look_answer want old new refusal.Input why same = absurd why
look_answer want old new refusal.Output why same = absurd why
