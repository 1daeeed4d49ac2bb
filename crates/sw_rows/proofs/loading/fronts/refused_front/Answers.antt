use Rattle.std.proofs.Common.{◌≡◌, ◌∙◌, ◌<◌, ◌++◌, ◌∷◌, ap, sym, subst, arith, length, IfSome, Result}
use Rattle.csv.specs.Reading.{default_config, records, strip_bom}
use Rattle.csv.specs.Records.{fields_of}
use Rattle.sw_rows.specs.Beginnings.{Begins}
use Rattle.sw_rows.specs.Gives.{Fails}
use Rattle.sw_rows.specs.Header.{Fault}
use Rattle.sw_rows.specs.Records.{records_left}
use Rattle.sw_rows.specs.Tables.{◌>>=◌, Table, seeing, table_of_records, table_with}
use Rattle.sw_rows.proofs.Loads.Beginnings.{front_bom, head_begins, header_long, records_begin, tail_begins}
use Rattle.sw_rows.proofs.Tables.TableLemmas.{left_one}
use Rattle.sw_rows.proofs.loading.fronts.refused_front.Goals as goal

pub refused_row-requires-clause-count : goal.refused_row-requires-clause-count
refused_row-requires-clause-count c =
    let one = left_one c.in-Ok-true.field-0 (records_left c.of-records.result.rdr) (fields_of c.next.new.self.row) (records_left c.next.new.self.rdr) c.in-Ok-true.field-0-test c.in-Ok-true.ensures.row in
    let all : length (records default_config (strip_bom c.args.front.now)) ≡ length (fields_of c.next.new.self.row ∷ records_left c.next.new.self.rdr) = ap length (sym c.of-records.ensures.all ∙ one) in
    omega (arith, all, c.requires.count, c.if-count-lt2.false)

pub returns-then-len-gt8 : goal.returns-then-len-gt8
returns-then-len-gt8 c = λ rest.
    let front = c.args.front.now in
    let r = fields_of c.next.new.self.row in
    let left = records_left c.next.new.self.rdr in
    let one = left_one c.in-Ok-true.field-0 (records_left c.of-records.result.rdr) r left c.in-Ok-true.field-0-test c.in-Ok-true.ensures.row in
    let all = records default_config (strip_bom front ++ rest) in
    let b = subst (λ rs. Begins rs all) (sym c.of-records.ensures.all ∙ one) (records_begin (strip_bom front) rest) in
    let head = head_begins r left all b in
    let more : 8 < length head.0 = let le = head.3 in omega (arith, le, c.len.ensures, c.if-len-gt8.true) in
    ap (λ xs. table_of_records (records default_config xs)) (front_bom front rest c.requires.long) ∙ ap table_of_records head.2 ∙ header_long head.0 head.1 more

pub returns-in-Ok : goal.returns-in-Ok
returns-in-Ok c = λ rest.
    let front = c.args.front.now in
    let r = fields_of c.next.new.self.row in
    let left = records_left c.next.new.self.rdr in
    let cs = c.in-Ok.columns in
    let one = left_one c.in-Ok-true.field-0 (records_left c.of-records.result.rdr) r left c.in-Ok-true.field-0-test c.in-Ok-true.ensures.row in
    let same = sym c.of-records.ensures.all ∙ one in
    let count : length (records default_config (strip_bom front)) ≡ length (r ∷ left) = ap length same in
    let all = records default_config (strip_bom front ++ rest) in
    let b = subst (λ rs. Begins rs all) same (records_begin (strip_bom front) rest) in
    let tail = tail_begins r left all (omega (arith, count, c.requires.count, c.if-count-lt2.false)) b in
    let whole = ap (λ xs. table_of_records (records default_config xs)) (front_bom front rest c.requires.long) ∙ ap table_of_records tail.1 ∙ ap (λ o. o >>= λ columns. table_with (seeing columns tail.0) tail.0) c.in-Ok.ensures.gives in
    subst (λ (read : Result Table Fault). IfSome c.refused_row.result (λ e. Fails ⊥ e read)) (sym whole) (c.refused_row.ensures tail.0 tail.2)
