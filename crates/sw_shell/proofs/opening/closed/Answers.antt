use Rattle.std.proofs.Common.{◌≡◌, ℕ, List, ◌∷◌, [], inl, refl}
use Rattle.sw_cli.proofs.Legal.{over_columns}
use Rattle.sw_engine.specs.Desk.{AreAll}
use Rattle.sw_engine.specs.Published.{Shown}
use Rattle.sw_shell.proofs.opening.closed.Goals as goal

-- the one ticket is all that there may be
one_is_all : (most : ℕ) (t : Shown) (ts : List Shown) → ts ≡ t ∷ [] → most ≡ 1 → t.0 ≡ 1 → AreAll most ts
one_is_all most t ts is one first = rw (is, one) (refl, λ _. inl first)

pub unwrap-record-requires : goal.unwrap-record-requires
unwrap-record-requires g c =
    c.close.ensures.all (one_is_all g.J.Naming.most c.args.ticket c.push_reserved.new.self.items (rw (c.push_reserved.ensures.items, c.requires.none) refl) c.requires.all.0 c.requires.all.1)

pub returns : goal.returns
returns g c =
    let w = c.with_columns in
    over_columns g.J.Naming.columns c.args.schema g.J.Naming.opening g.J.Naming.limit ((c.args.ticket.0, c.args.ticket.1) ∷ []) c.unwrap-record.result w.result
    (rw (c.push_reserved.ensures.items, c.requires.none, c.unwrap-record.ensures) at c.close.ensures.headline) w.ensures.columns w.ensures.rows w.ensures.limit w.ensures.entries w.ensures.legal
