use Rattle.std.proofs.Common.{◌+◌, ◌<◌, arith, rules}
use Rattle.sw_load.proofs.gone.place_of.Goals as goal

pub overflow_add-result : goal.overflow_add-result
overflow_add-result c =
    let small : c.args.place + c.count_before.result < 18446744073709551616 = omega (arith, c.count_before.ensures.within, c.requires.small) in
    search (rules, small)
