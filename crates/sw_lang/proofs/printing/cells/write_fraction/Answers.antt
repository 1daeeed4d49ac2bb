use Rattle.std.proofs.Common.{◌≤◌, length, decimal, arith, rules}
use Rattle.std.proofs.lemmas.Fmt.{length-decimal-le}
use Rattle.sw_lang.proofs.Printed.Texts.{fraction_text}
use Rattle.sw_lang.proofs.printing.cells.write_fraction.Goals as goal

pub write_digits-requires : goal.write_digits-requires
write_digits-requires g c =
    let short : length (decimal c.args.fraction) ≤ c.args.places = length-decimal-le c.args.places c.args.fraction c.requires.some c.requires.below (search rules) in
    (omega arith, omega arith)

pub returns : goal.returns
returns g c =
    let short : length (decimal c.args.fraction) ≤ c.args.places = length-decimal-le c.args.places c.args.fraction c.requires.some c.requires.below (search rules) in
    let w = c.write_digits in
    rw (← fraction_text c.args.places w.result (decimal c.args.fraction) w.new.buf c.requires.few short w.ensures.start w.ensures.written w.ensures.before) c.write_all.ensures
