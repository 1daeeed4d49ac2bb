use Rattle.std.proofs.Common.{◌≡◌, ◌∙◌, ◌∷◌, ◌++◌, [], true, rules, sym, ap}
use Rattle.std.proofs.lemmas.List.{append_assoc}
use Rattle.csv.specs.Records.{fields_of}
use Rattle.sw_import.specs.Records.{records_left}
use Rattle.sw_import.proofs.TakenLemmas.{takes_more, wanted_more}
use Rattle.sw_import.proofs.writing.Table.take_all.Goals as goal

pub rows-preserved : goal.rows-preserved
rows-preserved c =
    let found : c.in_ok-next.field-0 ≡ true = search rules in
    let step : records_left c.rows.records.rdr ≡ fields_of c.next.new.self.row ∷ records_left c.next.new.self.rdr = rw found at c.in_ok-next.ensures.row in
    let (plain, few, taken, whole, wanted, takes) = c.rows.invariant in (
      c.in_ok-next.ensures.plain,
      c.in_ok-take.ensures.few,
      taken ++ fields_of c.next.new.self.row ∷ [],
      whole ∙ ap (λ rs. taken ++ rs) step ∙ sym (append_assoc taken (fields_of c.next.new.self.row ∷ []) (records_left c.next.new.self.rdr)),
      wanted_more c.args.maker.now c.args.most taken (fields_of c.next.new.self.row) c.args.self.now c.rows.self takes (search rules) wanted,
      takes_more c.args.maker.now taken (fields_of c.next.new.self.row ∷ []) c.args.self.now c.rows.self c.take.new.self takes c.in_ok-take.ensures.taken,
    )
