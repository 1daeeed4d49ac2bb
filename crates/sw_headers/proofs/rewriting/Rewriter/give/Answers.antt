use Rattle.std.proofs.Common.{◌∙◌, ◌<◌, ◌≡◌, ◌-◌, ap, arith, drop, length, refl}
use Rattle.std.proofs.lemmas.List.{length-drop}
use Rattle.sw_headers.proofs.Given.{given_some}
use Rattle.sw_headers.proofs.rewriting.Rewriter.give.Goals as goal

pub returns-else-count-left-clause-given : goal.returns-else-count-left-clause-given
returns-else-count-left-clause-given c =
    let out = c.args.self.now.out.items in
    let left = c.split_at.result.1.now in
    let same = c.as_slice.ensures.value in
    let back = c.split_at.ensures.back ∙ ap (λ xs. drop c.min.result xs) same in
    let lt : c.min-count.result < length left = omega (arith, c.min-count.ensures, c.if-count-left.false) in
    let within : length left ≡ length out - c.min.result = ap length back ∙ length-drop c.min.result out in
    let few : length out < 18446744073709551616 = omega (arith, c.len.ensures, c.len.type_inv) in
    let rest = drop c.min-count.result c.args.buf.now in
    record {
      header = refl;
      place = refl;
      bytes = given_some out c.copy_from_slice.new.self rest left c.args.self.now.handed c.min.result c.min-count.result c.saturating_add-self.result back (omega (arith, c.min.ensures, c.len.ensures)) lt c.copy_from_slice.ensures.after c.saturating_add-self.ensures few;
      later = omega (arith, lt, c.saturating_add-self.ensures, within);
    }
