use Rattle.csv.specs.Records.{fields_of}
use Rattle.sw_import.proofs.TakenLemmas.{begun_of}
use Rattle.sw_import.proofs.writing.Table.new.Goals as goal

pub returns : goal.returns
returns c =
    begun_of c.args.plan.now (fields_of c.in_ok-header.field-0) _ c.in_ok-vec.field-0 c.new.result
    (rw c.new-pages.ensures at c.in_ok-add.ensures) c.in_ok-header.ensures
    (c.in_ok-vec.ensures.items_if_clones_equal (λ y e. e)) c.new.ensures
