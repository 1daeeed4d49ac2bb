use Rattle.std.proofs.Common.{◌≡◌, ◌∙◌, sym, ap, subst, ◌∷◌, ◌==◌, arith, refl}
use Rattle.sw_cli.specs.RefusedLines.{comes, tells_from}
use Rattle.sw_cli.specs.declared.watching.Place.{Place}
use Rattle.sw_cli.proofs.RefusedLines.{goes_on, line_ends, line_goes_on, stops}
use Rattle.sw_cli.proofs.watching.after.Goals as goal
use Rattle.sw_cli.proofs.watching.after.Goals.{in_default-via-in-Beginning+then-count-lt8+else-count-byte, in_default-via-in-Beginning+else-count-lt8, in_default-via-in_default}

pub returns-in-Beginning : goal.returns-in-Beginning
returns-in-Beginning c = λ later.
    goes_on c.in-Beginning.count c.args.byte later c.if-count-lt8.true c.if-count-byte.true ∙ ap (λ p. comes p (c.args.byte ∷ later)) (sym c.in-Beginning.is)

pub returns-in_default : goal.returns-in_default
returns-in_default c = λ later.
    let told : Place → Type 0 = λ p. comes p (c.args.byte ∷ later) ≡ tells_from (c.args.byte == 10) later in
    line_ends c.args.place c.args.byte later c.if-byte-eq10.true (elim c.in_default.branch [
      | in_default-via-in-Beginning+then-count-lt8+else-count-byte w ↦ subst told (sym w.in-Beginning.is) (stops w.in-Beginning.count c.args.byte later (λ _. w.if-count-byte.false))
      | in_default-via-in-Beginning+else-count-lt8 w ↦ subst told (sym w.in-Beginning.is) (stops w.in-Beginning.count c.args.byte later (λ lt _. absurd (omega (w.if-count-lt8.false, lt, arith))))
      | in_default-via-in_default w ↦ subst told (sym w.in_default.is) refl
    ])

pub returns-in_default-2 : goal.returns-in_default-2
returns-in_default-2 c = λ later.
    let told : Place → Type 0 = λ p. comes p (c.args.byte ∷ later) ≡ tells_from (c.args.byte == 10) later in
    line_goes_on c.args.place c.args.byte later c.if-byte-eq10.false (elim c.in_default.branch [
      | in_default-via-in-Beginning+then-count-lt8+else-count-byte w ↦ subst told (sym w.in-Beginning.is) (stops w.in-Beginning.count c.args.byte later (λ _. w.if-count-byte.false))
      | in_default-via-in-Beginning+else-count-lt8 w ↦ subst told (sym w.in-Beginning.is) (stops w.in-Beginning.count c.args.byte later (λ lt _. absurd (omega (w.if-count-lt8.false, lt, arith))))
      | in_default-via-in_default w ↦ subst told (sym w.in_default.is) refl
    ])
