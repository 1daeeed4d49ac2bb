use Rattle.std.proofs.Common.{◌≡◌, ◌∙◌, ap, sym, subst, length, ℕ, List, rules}
use Rattle.sw_query.specs.declared.query.Call.TheVariants.{DeleteWhere}
use Rattle.sw_query.specs.declared.reply.Reply.TheVariants.{RemovedMany}
use Rattle.sw_table.specs.Live.{live_rows}
use Rattle.sw_table.specs.declared.row.Row.{Row}
use Rattle.sw_spine.specs.Replays.{Replayed, StandsAfter, replayed, rows_without}
use Rattle.sw_spine.specs.Table.{reply_to, updates_then}
use Rattle.sw_spine.proofs.ReplayLemmas.{deletes_where}
use Rattle.sw_spine.proofs.replay.Replay.drop_matching.Goals as goal

pub returns-clause-made : goal.returns-clause-made
returns-clause-made c us stands =
    let t = c.self.inside.table in let limit = c.self.inside.limit in let conds = c.args.conds.now in
    let old : Replayed = replayed (live_rows t) t.top limit in
    let before : StandsAfter us old = subst (StandsAfter us) (sym c.self.view_is) stands in
    let keys = c.in_ok-keys.keys.items in
    let h = deletes_where us old conds keys before c.in_ok-keys.ensures in
    let rows : live_rows c.drop_keys.new.table ≡ rows_without keys (live_rows t) = c.drop_keys.ensures.rows ∙ ap (λ (ks : List ℕ). rows_without ks (live_rows t)) c.as_slice.ensures.value in
    let is = ap (λ (rs : List Row). replayed rs c.drop_keys.new.table.top limit) rows ∙ ap (λ (k : ℕ). replayed (rows_without keys (live_rows t)) k limit) c.drop_keys.ensures.top in
    let limits : limit ≡ c.args.self.now.limit = ap (λ (v : Replayed). v.limit) c.self.view_is in
    let many : c.len.result ≡ length keys = search rules in
    let told : RemovedMany c.len.result ≡ reply_to limit us (DeleteWhere conds) = ap RemovedMany many ∙ h.0 in
    rw is (subst (λ (n : ℕ). (RemovedMany c.len.result ≡ reply_to n us (DeleteWhere conds)) × StandsAfter (updates_then n us (DeleteWhere conds)) (replayed (rows_without keys (live_rows t)) t.top limit)) limits (told, h.1))
