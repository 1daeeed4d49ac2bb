-- What a tape's fields keep, after one more entry.
use Rattle.std.proofs.Common.{◌≡◌, ◌≤◌, ◌<◌, ◌+◌, ℕ, max, ◌||◌, List, [], ◌∷◌, ◌++◌, length, sym, ap, ap₂, ◌∙◌, arith}
use Rattle.std.proofs.lemmas.List.{length-append}
use Rattle.sw_query.specs.declared.bound.Bound.{Bound}
use Rattle.sw_table.specs.declared.row.Row.{Row}
use Rattle.sw_kernel.specs.Replay.{Step}
use Rattle.sw_kernel.specs.Tapes.{MayFollow, IsRising, count_after, count_from, ranges_at}
use Rattle.sw_tape.specs.Bounds.{is_among}
use Rattle.sw_tape.specs.Entries.{IsKept}
use Rattle.sw_tape.proofs.Steps.{count-push, peak-push, tape-push, marked-push}

-- where a tape takes in one more entry that may follow, its fields are again what its entries say
pub kept-push : (es : List (Step Row)) (e : Step Row) (bs bs' : List Bound) (n n' p p' : ℕ) → IsKept es bs n p → MayFollow (count_from 0 es) e → length es < 4096 → IsRising bs' →
    ((b : Bound) → is_among b bs' ≡ ranges_at b e || is_among b bs) → n' ≡ count_after n e → n' ≤ n + 1 → p' ≡ max p n' → IsKept (es ++ e ∷ []) bs' n' p'
kept-push es e bs bs' n n' p p' h f short rising among en le ep =
    let long : length (es ++ e ∷ []) ≡ length es + 1 = length-append es (e ∷ []) in
    let next : n' ≡ count_after (count_from 0 es) e = en ∙ ap (λ (k : ℕ). count_after k e) h.counted in
    let few = h.few in
    record {
      tape = tape-push es e h.tape f;
      short = omega (arith, long, short);
      rising = rising;
      marked = λ b. among b ∙ ap (λ t. ranges_at b e || t) (h.marked b) ∙ sym (marked-push b es e);
      counted = next ∙ sym (count-push 0 es e);
      highest = ep ∙ ap₂ max h.highest next ∙ sym (peak-push 0 es e);
      few = omega (arith, long, few, le);
    }
