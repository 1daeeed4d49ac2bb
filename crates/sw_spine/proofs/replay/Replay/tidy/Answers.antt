use Rattle.std.proofs.Common.{◌≡◌, ◌∙◌, ap, refl, length, ℕ, Bool, List}
use Rattle.sw_table.specs.declared.row.Row.{Row}
use Rattle.sw_table.specs.Kept.{kept}
use Rattle.sw_table.specs.Live.{live_rows}
use Rattle.sw_table.proofs.LiveLaws.{kept-fresh}
use Rattle.sw_spine.specs.Replays.{replayed}
use Rattle.sw_spine.proofs.replay.Replay.tidy.Goals as goal

pub returns-in_ok-compact : goal.returns-in_ok-compact
returns-in_ok-compact c =
    let old = c.self.inside.table in let new = c.compact.new.self in let limit = c.self.inside.limit in
    let rows : live_rows new ≡ live_rows old =
    ap (λ (fs : List Bool). kept fs new.came) c.in_ok-compact.ensures.live ∙ kept-fresh (length new.came) new.came refl ∙ c.in_ok-compact.ensures.ok in
    ap (λ (rs : List Row). replayed rs new.top limit) rows ∙ ap (λ (k : ℕ). replayed (live_rows old) k limit) c.in_ok-compact.ensures.top ∙ c.self.view_is
