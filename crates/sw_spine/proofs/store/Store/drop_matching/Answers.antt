use Rattle.std.proofs.Common.{◌≡◌, ◌∙◌, ◌++◌, ap, sym, subst, length, map, ℕ, Bool, List, rules}
use Rattle.std.proofs.lemmas.List.{length-map}
use Rattle.sw_query.specs.Scan.{matching}
use Rattle.sw_query.specs.declared.query.Call.TheVariants.{DeleteWhere}
use Rattle.sw_query.specs.declared.reply.Reply.TheVariants.{RemovedMany}
use Rattle.sw_table.specs.Kept.{kept}
use Rattle.sw_table.specs.Live.{key_of}
use Rattle.sw_table.specs.Updates.{rows_of}
use Rattle.sw_table.specs.declared.row.Row.{Row}
use Rattle.sw_table.specs.declared.row.Update.{Update}
use Rattle.sw_table.specs.declared.row.Update.TheVariants.{Remove}
use Rattle.sw_spine.specs.Listed.{flags_at, listed, rows_at}
use Rattle.sw_spine.specs.Table.{HasSlots, Stored, all_updates, opened, removals, reply_to, stored_then}
use Rattle.sw_spine.proofs.StoreLemmas.{removals_keys}
use Rattle.sw_spine.proofs.store.Store.drop_matching.Goals as goal

pub invariant_of-self-2 : goal.invariant_of-self-2
invariant_of-self-2 c =
    let s = c.self.inside in
    let first : List Update = opened s.rows.items in
    let given : List Row = s.rows.items ++ s.came.items in (
      c.remove_each.ensures.slots s.limit first given (subst (λ (l : List Update). HasSlots s.limit (first ++ l) given s.live.items) (sym c.in_ok-make_room.ensures.items) c.self.invariant.0),
      c.remove_each.ensures.listed given s.listing.some.items s.listing.from c.self.invariant.0.numbered c.self.invariant.1,
    )

pub returns : goal.returns
returns c =
    let s = c.self.inside in
    let conds = c.args.conds.now in
    let us : List Update = opened s.rows.items ++ s.later.items in
    let given : List Row = s.rows.items ++ s.came.items in
    let gone : List Row = matching conds (rows_of us) in
    let shown = c.self.invariant.1.meets.met in
    let places = listed s.listing.some.items s.listing.from (length given) in
    let keys : c.in_ok-keys.keys.items ≡ map key_of gone =
    c.in_ok-keys.ensures ∙ ap (λ (fs : List Bool). map key_of (matching conds (kept (flags_at places fs) (rows_at places given)))) c.as_slice.ensures.value ∙ ap (λ (rs : List Row). map key_of (matching conds rs)) shown ∙ ap (λ (rs : List Row). map key_of (matching conds rs)) (sym c.self.invariant.0.rows_are) in
    let all : c.len-2.result ≡ length c.in_ok-keys.keys.items = search rules in
    let many : c.len-2.result ≡ length gone = all ∙ ap (λ (ks : List ℕ). length ks) keys ∙ length-map gone key_of in
    let later : c.remove_each.new.later.items ≡ s.later.items ++ removals gone =
    c.remove_each.ensures.later
    ∙ ap (λ (l : List Update). l ++ map (λ (k : ℕ). Remove k) c.as_slice-2.result.now) c.in_ok-make_room.ensures.items
    ∙ ap (λ (ks : List ℕ). s.later.items ++ map (λ (k : ℕ). Remove k) ks) (c.as_slice-2.ensures.value ∙ keys)
    ∙ ap (λ (l : List Update). s.later.items ++ l) (sym (removals_keys gone)) in
    subst (λ (v : Stored). (RemovedMany c.len-2.result ≡ reply_to v.limit (all_updates v) (DeleteWhere conds)) × (record { rows = s.rows.items; limit = s.limit; later = c.remove_each.new.later.items } ≡ stored_then v (DeleteWhere conds)))
    c.self.view_is
    (ap RemovedMany many, ap (λ (l : List Update). record { rows = s.rows.items; limit = s.limit; later = l }) later)
