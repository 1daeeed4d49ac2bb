use Rattle.std.proofs.Common.{◌≡◌, ◌≢◌, ◌<◌, sym, subst, length, get_or, All, MatchOption}
use Rattle.sw_table.specs.declared.row.Row.{Row}
use Rattle.sw_table.specs.Live.{Rises, key_of}
use Rattle.sw_table.specs.Packed.{Packed}
use Rattle.sw_table.proofs.Packing.{keys-rise, rows-found}
use Rattle.sw_table.proofs.packed.PackedRows.find.Goals as goal

pub find-requires : goal.find-requires
find-requires c = let s = c.self.inside in keys-rise s.width s.keys s.cells (subst (λ (v : Packed). Rises key_of v.items) (sym c.self.view_is) c.requires)

pub returns : goal.returns
returns c =
    let s = c.self.inside in
    subst (λ (v : Packed). MatchOption c.find.result (All (λ (r : Row). r.key ≢ c.args.key) v.items) (λ p. (p < length v.items) × ((d : Row) → (get_or v.items p d).key ≡ c.args.key))) c.self.view_is
    (rows-found c.find.result s.width s.keys s.cells c.args.key c.find.ensures)
