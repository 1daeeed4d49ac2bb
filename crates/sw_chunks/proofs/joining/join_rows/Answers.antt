use Rattle.std.proofs.Common.{rules, ◌≡◌, length}
use Rattle.sw_chunks.proofs.Joined.{merged-empty}
use Rattle.sw_chunks.proofs.joining.join_rows.Goals as goal

pub returns-then-len-eq0-2 : goal.returns-then-len-eq0-2
returns-then-len-eq0-2 c =
    let none : length c.args.second ≡ 0 = search rules in
    merged-empty c.args.first c.args.second none
