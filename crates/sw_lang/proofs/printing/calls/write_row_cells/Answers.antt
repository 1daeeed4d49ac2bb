use Rattle.std.proofs.Common.{ap, ◌∙◌, subst, List}
use Rattle.std.proofs.Common.{take, map, ◌∷◌, [], ℕ}
use Rattle.sw_rows.specs.Domains.{Domain}
use Rattle.sw_lang.specs.Replies.{cells_text, kind_at}
use Rattle.sw_lang.specs.Sinks.{Writes}
use Rattle.sw_lang.proofs.Printed.Calls.{kinds_all}
use Rattle.sw_lang.proofs.printing.calls.write_row_cells.Goals as goal

pub returns : goal.returns
returns g c =
    let s = g.W.Sink in
    let schema = c.args.schema.now in
    let kinds = ap (λ (n : ℕ). map (kind_at schema) (take n (0 ∷ 1 ∷ 2 ∷ 3 ∷ 4 ∷ 5 ∷ 6 ∷ 7 ∷ []))) c.len.ensures.value ∙ kinds_all schema c.len.ensures.schema.sound.few in
    subst (λ (ks : List Domain). Writes (s.taken c.args.out.now) (s.taken c.write_cells.new.out) (s.failed c.args.out.now) (s.failed c.write_cells.new.out) c.write_cells.result (cells_text ks c.args.cells.now)) kinds c.write_cells.ensures
