use Rattle.std.proofs.Common.{◌≡◌, ◌∙◌, ◌==◌, ap, false, length, map, not, rules}
use Rattle.sw_histories.specs.RecordText.{entry_data, items_then}
use Rattle.sw_histories.proofs.Back.TextFromEnd.{one_taken}
use Rattle.sw_histories.proofs.writing.put_entries_before.Goals as goal

pub loop-entry-preserved : goal.loop-entry-preserved
loop-entry-preserved c =
    let data_of = entry_data c.args.schema.now in
    let left = c.pop.new.self.items in
    let later : not c.is_empty.result ≡ not (length left == 0) = search rules in
    ap (λ es. items_then false (map data_of es) c.put_entry_before.new.text) c.give_back.ensures
    ∙ one_taken data_of c.loop-entry.left.items left c.in-Some.entry (not c.is_empty.result) c.loop-entry.text c.put_entry_before.new.text c.in-Some.ensures.items later c.in_ok-put_entry_before.ensures
    ∙ c.loop-entry.invariant
