use Rattle.std.proofs.Common.{◌∙◌, ◌<◌, ◌∷◌, [], ap, sym, length, take, get_or, ℕ, List, arith}
use Rattle.std.proofs.lemmas.List.{take_more}
use Rattle.std.proofs.lemmas.List.Sums.{fold-append}
use Rattle.sw_table.specs.Live.{Living, live_rows}
use Rattle.sw_table.specs.Updates.{without}
use Rattle.sw_table.specs.declared.row.Row.{Row}
use Rattle.sw_spine.specs.Replays.{rows_without}
use Rattle.sw_spine.proofs.replay.drop_keys.Goals as goal

pub loop-key-preserved : goal.loop-key-preserved
loop-key-preserved c =
    let i = c.loop-key.key-index in
    let ks = c.args.keys.now in
    let lt : i < length ks = omega (arith, c.loop-key-test.true) in
    let was : List Row = live_rows c.args.table.now in
    record {
      rows =
          c.remove.ensures.rows
          ∙ ap (without (get_or ks i 0)) c.loop-key.invariant.rows
          ∙ sym (ap (λ (l : List ℕ). rows_without l was) (take_more ks i 0 lt) ∙ fold-append (λ (left : List Row) (key : ℕ). without key left) was (take i ks) (get_or ks i 0 ∷ []));
      top = ap (λ (t : Living). t.top) c.remove.ensures.came ∙ c.loop-key.invariant.top;
    }
