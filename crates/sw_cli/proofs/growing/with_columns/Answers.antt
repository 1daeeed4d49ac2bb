use Rattle.std.proofs.Common.{rules, ◌≡◌}
use Rattle.sw_spine.specs.History.{history}
use Rattle.sw_cli.proofs.Legal.{legal_over}
use Rattle.sw_cli.proofs.growing.with_columns.Goals as goal

pub returns-clause-legal : goal.returns-clause-legal
returns-clause-legal c =
    let r = c.history.inside in
    let is : c.args.history ≡ history r.schema r.rows.items r.limit r.entries.items = search rules in
    legal_over c.args.history r.schema c.args.schema r.rows.items r.limit r.entries.items is c.requires.given
