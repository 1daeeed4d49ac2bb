use Rattle.std.proofs.Common.{rules, ◌<◌, ◌^◌, List, ℤ, None, sym, subst, arith, All}
use Rattle.sw_table.specs.declared.row.Row.{Row}
use Rattle.sw_lang.specs.Cuts.{cuts_on}
use Rattle.sw_chunks.specs.Cuts.{RiseAbove}
use Rattle.sw_set.specs.Shelf.{Rises, key_of}
use Rattle.sw_engine.proofs.Latches.{cuts_rise, if_new_head, keys_fit, numbered_rise}
use Rattle.sw_engine.proofs.heads.opening.Opening.head.Goals as goal

pub overflow_cast-place : goal.overflow_cast-place
overflow_cast-place g c = omega (arith, c.requires.place, c.self.invariant.few)

pub of-requires-clause-rising : goal.of-requires-clause-rising
of-requires-clause-rising g c κs within =
    subst (λ (zs : List ℤ). RiseAbove None zs) (sym c.of-cuts.ensures) (cuts_rise (cuts_on c.self.inside.cuts c.args.place) (c.self.invariant.lawful c.args.place c.requires.place).rise)

pub of-requires-clause-keys : goal.of-requires-clause-keys
of-requires-clause-keys g c κs within =
    subst (λ (rs : List Row). All (λ (r : Row). r.key < 2 ^ 63) rs) (sym c.requires.rows) (keys_fit g.J.Naming.opening c.self.invariant.numbered (omega (arith, c.self.invariant.within, c.self.invariant.most)))

pub of-requires-clause-rise : goal.of-requires-clause-rise
of-requires-clause-rise g c κs within =
    subst (λ (rs : List Row). Rises key_of rs) (sym c.requires.rows) (numbered_rise 1 g.J.Naming.opening c.self.invariant.numbered)

pub returns-clause-made : goal.returns-clause-made
returns-clause-made g c = if_new_head _ c.args.place _ c.args.rows.items g.J.Naming.opening c.of.result (search rules) c.requires.rows c.of.ensures
