use Rattle.sw_rows.specs.Header.{Fault}
use Rattle.sw_table.specs.declared.row.Row.{Row}
use Rattle.std.proofs.Common.{Result, ◌≡◌, ap, sym, ◌∙◌, List, ℕ, [], ◌++◌, length, take, drop}
use Rattle.csv.specs.Reading.{default_config, records}
use Rattle.sw_rows.specs.Header.{kinds_of}
use Rattle.sw_rows.specs.Parts.{rows_joined}
use Rattle.sw_rows.specs.Tables.{rows_after}
use Rattle.sw_rows.specs.Domains.{Domain}
use Rattle.sw_rows.proofs.Loads.PartLaws.{gives_part, rows_cut}
use Rattle.sw_rows.proofs.loading.parts.+halves.Goals as goal

abbrev read : List Domain → List ℕ → Result (List Row) Fault
read ks text = rows_after ks [] (records default_config text)

both : (ks : List Domain) (part left right : List ℕ) (at : ℕ) → left ≡ take at part → right ≡ drop at part → records default_config part ≡ records default_config (take at part) ++ records default_config (drop at part)
    → rows_joined (read ks left) (read ks right) ≡ read ks part
both ks part left right at l r e = rw (l, r) (sym (rows_cut ks (records default_config (take at part)) (records default_config (drop at part))) ∙ ap (rows_after ks []) (sym e))

pub returns-clause-rows : goal.returns-clause-rows
returns-clause-rows g t c =
    let ks = kinds_of c.args.columns.now in
    let left = c.split_at.result.0.now in
    let right = c.split_at.result.1.now in
    rw (both ks c.args.part.now left right c.in-Some.at c.split_at.ensures.front c.split_at.ensures.back c.in-Some.ensures.records) at
    (c.joined.ensures.gives (read ks left) (read ks right) c.join-first.ensures.first.0 c.join-first.ensures.second.0)

pub returns-clause-part : goal.returns-clause-part
returns-clause-part g t c = gives_part (kinds_of c.args.columns.now) (records default_config c.args.part.now) (length c.args.columns.now) c.joined.result (returns-clause-rows g t c) (c.joined.ensures.width (length c.args.columns.now) c.join-first.ensures.first.1)
