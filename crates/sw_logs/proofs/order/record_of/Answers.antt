use Rattle.std.proofs.Common.{◌≡◌, ℕ, List, length, subst, sym, arith, rules}
use Rattle.sw_logs.specs.Orders.{AreEntriesOf, AreNumbersOf}
use Rattle.sw_logs.proofs.OrderLemmas.{entries_below, entries_many}
use Rattle.sw_logs.proofs.order.record_of.Goals as goal

pub entries_of-requires : goal.entries_of-requires
entries_of-requires c = subst (λ (l : List ℕ). AreNumbersOf c.args.calls.now l) (sym c.as_slice-places.ensures.value) c.requires.numbers

pub invariant_of-history : goal.invariant_of-history
invariant_of-history c =
    let entries = c.in_ok-entries.entries.items in
    let places = c.args.placed.now.places.items in
    let are : AreEntriesOf c.args.calls.now places entries = subst (λ (l : List ℕ). AreEntriesOf c.args.calls.now l entries) c.as_slice-places.ensures.value c.in_ok-entries.ensures in
    let many : length entries ≡ length places = entries_many c.args.calls.now places entries are in
    record {
      some = c.requires.table.some;
      most = c.requires.table.most;
      few = c.requires.table.few;
      numbered = c.requires.table.numbered;
      short = omega (arith, many);
      below = entries_below (length c.args.opening.schema) c.args.calls.now places entries c.requires.fit are;
    }

pub returns : goal.returns
returns c =
    record {
      columns_are = search rules;
      rows_are = search rules;
      limit_is = search rules;
      entries = subst (λ (l : List ℕ). AreEntriesOf c.args.calls.now l c.in_ok-entries.entries.items) c.as_slice-places.ensures.value c.in_ok-entries.ensures;
    }
