use Rattle.std.proofs.Common.{◌≡◌, ◌<◌, ◌++◌, ◌∷◌, [], ℕ, Bool, true, false, List, All, length, get_or, sym, subst, arith, rules}
use Rattle.std.specs.Bool.{if◌then◌else◌}
use Rattle.std.specs.Result.{is_ok}
use Rattle.std.proofs.lemmas.List.Elements.{All-push, All-same}
use Rattle.sw_spine.specs.History.{CallsBelow}
use Rattle.sw_spine.proofs.CheckLemmas.{below_at}
use Rattle.sw_spine.proofs.history.Record.changes_before.Goals as goal
use Rattle.sw_spine.proofs.history.Record.changes_before.Goals.{else-branch-via-then-branch+else-is_err, else-branch-via-else-branch}

pub make_watched-requires : goal.make_watched-requires
make_watched-requires c =
    let s = c.self.inside in
    let lt : c.loop-i.i < length s.entries.items = search rules in
    let is : c.entry-item.result ≡ get_or s.entries.items c.loop-i.i c.entry-item.result = search rules in
    let below : CallsBelow (length s.schema) (get_or s.entries.items c.loop-i.i c.entry-item.result).call = below_at (length s.schema) s.entries.items c.loop-i.i c.entry-item.result c.self.invariant.below lt in
    subst (CallsBelow (length s.schema)) (sym c.call-in-loop-i.ensures) (subst (λ e. CallsBelow (length s.schema) e.call) (sym is) below)

-- after a push that was made, or was not for want of memory
all-below : (n : ℕ) (made : Bool) (old new : List ℕ) (i : ℕ) → new ≡ (if made then old ++ i ∷ [] else old) → All (λ k. k < n) old → i < n → All (λ k. k < n) new
all-below n true old new i is all lt = All-same (λ k. k < n) new (old ++ i ∷ []) is (All-push (λ k. k < n) old i all lt)
all-below n false old new i is all lt = All-same (λ k. k < n) new old is all

pub loop-i-preserved : goal.loop-i-preserved
loop-i-preserved c =
    let lt : c.loop-i.i < c.args.place = omega (arith, c.if-i-place.false) in
    elim c.else-branch.branch [
      | else-branch-via-then-branch+else-is_err w ↦
          subst (λ (v : _). All (λ k. k < c.args.place) v.items) (sym w.places-is) (all-below c.args.place (is_ok w.push.result) c.loop-i.places.items w.push.new.self.items c.loop-i.i w.push.ensures.items c.loop-i.invariant lt)
      | else-branch-via-else-branch w ↦ subst (λ (v : _). All (λ k. k < c.args.place) v.items) (sym w.places-is) c.loop-i.invariant
    ]
