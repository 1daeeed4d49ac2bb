use Rattle.std.proofs.Common.{◌≡◌, ◌∙◌, ap, sym, ◌<◌, ◌*◌, ◌+◌, pos, length, get_or, arith, rules, w64, to_z, of_z}
use Rattle.std.proofs.Math.ListN.{set, length-set}
use Rattle.std.proofs.lemmas.Int.{to_z-of_z}
use Rattle.sw_table.specs.Exchanged.{exchanged, with_exchanged}
use Rattle.sw_table.specs.Packed.{rows_in}
use Rattle.sw_table.proofs.ExchangeLaws.{all_of, rows_further}
use Rattle.sw_table.proofs.Packing.{rows-many}
use Rattle.sw_table.proofs.exchanging.exchange_cells.Goals as goal

pub loop-place-preserved : goal.loop-place-preserved
loop-place-preserved c =
    let n = c.args.width in
    let cs = c.loop-place.cells in
    let at = c.loop-place.place * n + c.args.attr in
    let value : to_z w64 (of_z w64 c.exchanged.result) ≡ exchanged c.args.codes.now (get_or cs at (pos 0)) = to_z-of_z w64 c.exchanged.result (search rules) ∙ c.exchanged.ensures ∙ ap (exchanged c.args.codes.now) (to_z-of_z w64 (get_or cs at (pos 0)) (search rules)) in
    record {
      whole = length-set cs at (to_z w64 (of_z w64 c.exchanged.result)) ∙ c.loop-place.invariant.whole;
      rows = λ keys long.
          let inside : c.loop-place.place < length keys = omega (arith, long, c.loop-place-test.true) in
          let whole : length cs ≡ length keys * n = c.loop-place.invariant.whole ∙ ap (λ m. m * n) (sym long) in
          ap (λ z. rows_in n keys (set cs at z)) value
          ∙ rows_further n keys cs c.args.cells.now c.loop-place.place c.args.attr c.args.codes.now c.requires.within whole inside (c.loop-place.invariant.rows keys long);
    }

pub returns-clause-rows : goal.returns-clause-rows
returns-clause-rows c = λ keys long.
    let rows = rows_in c.args.width keys c.args.cells.now in
    let many : c.loop-place.place ≡ length rows = omega (arith, c.loop-place-test.false, c.loop-place.auto, long, rows-many c.args.width keys c.args.cells.now) in
    c.loop-place.invariant.rows keys long ∙ all_of (with_exchanged c.args.attr c.args.codes.now) c.loop-place.place rows many
